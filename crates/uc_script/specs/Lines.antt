-- How a script's bytes fall into lines, and a line into fields.
use Rattle.std.specs.Prelude.{ℕ, List, [], ◌∷◌, Bool, true, ◌==◌, if◌then◌else◌}
use Rattle.std.specs.List.{onto_first, slice_split}
use Rattle.std.specs.Str.{bytes_eq}

-- The lines of the input: each ends with LF, the last may lack it, and an empty rest is no line.
abbrev pub lines_of : List ℕ → List (List ℕ)
lines_of [] = []
lines_of (byte ∷ rest) = if byte == 10 then [] ∷ lines_of rest else onto_first byte (lines_of rest)

-- The fields of a line: what is between its spaces. A line without a space is one field.
abbrev pub fields_of : List ℕ → List (List ℕ)
fields_of line = slice_split (λ byte. byte == 32) line

-- An empty line, or a comment: a line that begins with `#`.
abbrev pub is_skipped : List ℕ → Bool
is_skipped [] = true
is_skipped (byte ∷ rest) = byte == 35

-- Whether a field is this word.
abbrev pub says : List ℕ → List ℕ → Bool
says field word = bytes_eq field word

-- The input is cut at the first LF, and a line at the first space.
use Rattle.std.proofs.Common.{◌≡◌, ℕ, ◌+◌, ◌<◌, ◌≤◌, Bool, false, eqb, List, [], ◌∷◌, length, take, drop, Some, None, refl, ap, arith, inl, inr, one-add, add-one}
use Rattle.std.specs.Prelude.{position}
use Rattle.std.specs.List.{position_or_len, before_first, after_first, onto_first}
use Rattle.std.proofs.lemmas.Bool.{cases_Bool}
use Rattle.std.proofs.lemmas.List.Splits.{slice_split_first, slice_split_none, length-slice_split}
use Rattle.uc_script.specs.Lines.{lines_of, fields_of}
use Rattle.uc_script.proofs.First.{position_or_len-yes, position_or_len-no, position_some, position_none, none_before}

-- ---- lines

-- whether a byte is LF
abbrev is_end : ℕ → Bool
is_end byte = eqb byte 10

-- a line that ends with LF
lines_first : (text : List ℕ) → position_or_len is_end text < length text → lines_of text ≡ before_first is_end text ∷ lines_of (after_first is_end text)
lines_first [] h = absurd (omega arith)
lines_first (byte ∷ rest) h =
    elim (cases_Bool (is_end byte)) [
      | inl passes ↦
          rw passes refl
      | inr other ↦
          let at = position_or_len-no is_end byte rest other in
          let ih = lines_first rest (omega (arith, at)) in
          rw (other, one-add, add-one) (rw add-one at (ap (onto_first byte) ih))
    ]

-- a byte that is no LF, where none is
no_end : (byte : ℕ) (rest : List ℕ) → length (byte ∷ rest) ≤ position_or_len is_end (byte ∷ rest) → is_end byte ≡ false
no_end byte rest h =
    elim (cases_Bool (is_end byte)) [
      | inl passes ↦ let at = position_or_len-yes is_end byte rest passes in absurd (omega arith)
      | inr other ↦ other
    ]

-- a line without one
lines_one : (byte : ℕ) (rest : List ℕ) → length (byte ∷ rest) ≤ position_or_len is_end (byte ∷ rest) → lines_of (byte ∷ rest) ≡ (byte ∷ rest) ∷ []
lines_one byte [] h = rw (no_end byte [] h) refl
lines_one byte (next ∷ rest) h =
    let first = no_end byte (next ∷ rest) h in
    let at = position_or_len-no is_end byte (next ∷ rest) first in
    rw first (ap (onto_first byte) (lines_one next rest (omega (arith, at))))

-- the first line of input with an LF at this place
pub lines_at : (text : List ℕ) (end : ℕ) → position is_end text ≡ Some end → lines_of text ≡ take end text ∷ lines_of (drop (end + 1) text)
lines_at text end h =
    let found = position_some is_end text end h in
    rw (← found.1) (lines_first text found.0)

-- that place is in the input
pub end_within : (text : List ℕ) (end : ℕ) → position is_end text ≡ Some end → end < length text
end_within text end h =
    let found = position_some is_end text end h in
    omega (arith, found.0, found.1)

-- input without an LF is one line
pub lines_whole : (text : List ℕ) → 0 < length text → position is_end text ≡ None → lines_of text ≡ text ∷ []
lines_whole [] some h = absurd (omega arith)
lines_whole (byte ∷ rest) some h = lines_one byte rest (position_none is_end (byte ∷ rest) h)

-- ---- fields

-- whether a byte is a space
abbrev is_space : ℕ → Bool
is_space byte = eqb byte 32

-- the first field of a line with a space at this place
pub fields_at : (line : List ℕ) (end : ℕ) → position is_space line ≡ Some end → fields_of line ≡ take end line ∷ fields_of (drop (end + 1) line)
fields_at line end h =
    let found = position_some is_space line end h in
    rw (← found.1) (slice_split_first is_space line 0 found.0)

-- a line without a space is one field
pub fields_whole : (line : List ℕ) → position is_space line ≡ None → fields_of line ≡ line ∷ []
fields_whole line h = slice_split_none is_space line (none_before is_space line (position_none is_space line h))

-- a line has a field
pub some_field : (line : List ℕ) → 0 < length (fields_of line)
some_field line = omega (arith, length-slice_split is_space line)

-- The lines of answers.
use Rattle.std.specs.Prelude.{ℕ, List, [], ◌∷◌, ◌++◌, length, codes, Some, None}
use Rattle.std.specs.List.{flat_map}
use Rattle.uc_tool_io.specs.Digits.{hex_text}
use Rattle.uc_query_read.specs.declared.answer.Answer.{Answer}
use Rattle.uc_query_read.specs.declared.answer.Answer.TheVariants.{Value, Rows, NotProtected}
use Rattle.uc_tool_io.specs.Line.{numbered_line, text_line}

-- a key and its value
abbrev pub row_line : List ℕ × List ℕ → List ℕ
row_line row = hex_text row.0 ++ 32 ∷ hex_text row.1 ++ 10 ∷ []

-- how many rows there are, and a line for each
abbrev pub rows_lines : List (List ℕ × List ℕ) → List ℕ
rows_lines rows = numbered_line (codes "rows ") (length rows) ++ flat_map row_line rows

-- the lines of an answer
abbrev pub answer_lines : Answer → List ℕ
answer_lines (Value None) = codes "none\n"
answer_lines (Value (Some value)) = text_line (codes "value ") value
answer_lines (Rows rows) = rows_lines rows
answer_lines (NotProtected at) = numbered_line (codes "not protected ") at

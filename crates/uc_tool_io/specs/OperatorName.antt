-- The words for the operators.
use Rattle.std.specs.Prelude.{ℕ, List, [], ◌∷◌, Option, codes, find}
use Rattle.std.specs.Str.{bytes_eq}
use Rattle.uc_tool_io.specs.declared.operator_name.OperatorName.{OperatorName}
use Rattle.uc_tool_io.specs.declared.operator_name.OperatorName.TheVariants.{Counter, Append, Maximum, Tail}

abbrev pub word_of : OperatorName → List ℕ
word_of Counter = codes "counter"
word_of Append = codes "append"
word_of Maximum = codes "maximum"
word_of Tail = codes "tail"

-- all of them
abbrev pub operators : List OperatorName
operators = Counter ∷ Append ∷ Maximum ∷ Tail ∷ []

-- the operator that a word names
abbrev pub named : List ℕ → Option OperatorName
named word = find (λ name. bytes_eq (word_of name) word) operators

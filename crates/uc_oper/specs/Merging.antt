-- The result of merging an operand into a value, or into none.
use Rattle.std.specs.Prelude.{ℕ, List, Option, Some, None}
use Rattle.uc_oper.specs.Operation.{Operation}

abbrev pub merged : Operation → Option (List ℕ) → List ℕ → List ℕ
merged m None y = m.first y
merged m (Some b) y = m.join b y

-- Lengths of a change's key and value.
use Rattle.std.specs.Prelude.{ℕ, ◌≤◌, List, length, All}
use Rattle.uc_bytes.specs.declared.op.Op.{Op}
use Rattle.uc_bytes.specs.declared.op.Op.TheVariants.{Put, Delete, Merge, DeleteRange}

-- the key and the value of the change have at most n bytes each
abbrev pub IsShort : ℕ → Op → Type 0
IsShort n (Put key value) = (length key ≤ n) × (length value ≤ n)
IsShort n (Delete key) = length key ≤ n
IsShort n (Merge key operand) = (length key ≤ n) × (length operand ≤ n)
IsShort n (DeleteRange begin end) = (length begin ≤ n) × (length end ≤ n)

-- there are at most n changes, and each of their keys and values has at most n bytes
pub record AreNoLonger (n : ℕ) (ops : List Op) : Type 0 where
  pub few : length ops ≤ n
  pub short : All (IsShort n) ops

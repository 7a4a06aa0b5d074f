-- The meaning of a merge operator, and its laws (RocksDB wiki, "Merge Operator").
use Rattle.std.specs.Prelude.{◌≡◌, ℕ, List}

-- an operator's three functions, on lists of bytes
pub record Operation : Type 0 where
  -- the value that a first operand makes if there is none
  pub first : List ℕ → List ℕ
  -- the value that an operand makes of the one before it
  pub join : List ℕ → List ℕ → List ℕ
  -- one operand that replaces an older and a newer one
  pub pair : List ℕ → List ℕ → List ℕ

-- operands may be combined before they meet a value, in any grouping
pub record IsLawful (m : Operation) : Type 0 where
  pub join_pair : (b x y : List ℕ) → m.join b (m.pair x y) ≡ m.join (m.join b x) y
  pub first_pair : (x y : List ℕ) → m.first (m.pair x y) ≡ m.join (m.first x) y
  pub pair_assoc : (x y z : List ℕ) → m.pair (m.pair x y) z ≡ m.pair x (m.pair y z)

-- The rows of a scan: the first rows, in byte order, of the keys that can be shown.
use Rattle.std.specs.Prelude.{◌≡◌, ℕ, ◌≤◌, List, Option, Some, All, Any, Contains, IsTrue, length, ◌⊎◌}
use Rattle.std.specs.declared.cmp.Ordering.TheVariants.{Less}
use Rattle.uc_bytes.specs.Bytes.{bytes_cmp}
use Rattle.uc_oper.specs.Operation.{Operation}
use Rattle.uc_bytes.specs.declared.write.Write.{Write}
use Rattle.uc_model.specs.Meaning.{Gives, value_of}
use Rattle.uc_query_read.specs.Answers.{is_in_range}
use Rattle.uc_rows.specs.Rising.{KeysRise}

-- a key that a scan looks at: it is in the range, and some put or merge names it
abbrev pub IsNamed : List Write → List ℕ → Option (List ℕ) → List ℕ → Type 0
IsNamed writes low high key = IsTrue (is_in_range low high key) × Any (λ w. Gives key w.op) writes

-- a row that a scan may show: such a key, with its value at the sequence
abbrev pub IsRow : Operation → List Write → List ℕ → Option (List ℕ) → ℕ → List ℕ × List ℕ → Type 0
IsRow m writes low high at row = IsNamed writes low high row.0 × (value_of m writes row.0 at ≡ Some row.1)

-- the first `limit` pairs with P, in byte order of their keys
pub record AreFirst (P : List ℕ × List ℕ → Type 0) (limit : ℕ) (rows : List (List ℕ × List ℕ)) : Type 0 where
  pub rise : KeysRise rows
  pub only : All P rows
  pub few : length rows ≤ limit
  -- a pair with P is left out only after `limit` others
  pub first : (row : List ℕ × List ℕ) → P row → Contains rows row ⊎ ((length rows ≡ limit) × All (λ other. bytes_cmp other.0 row.0 ≡ Less) rows)

-- the rows of a scan
abbrev pub IsScan : Operation → List Write → List ℕ → Option (List ℕ) → ℕ → ℕ → List (List ℕ × List ℕ) → Type 0
IsScan m writes low high at limit rows = AreFirst (IsRow m writes low high at) limit rows

-- Keys without a value that a walk passes in one step.
use Rattle.std.specs.Prelude.{◌≡◌, ℕ, ◌+◌, ◌<◌, true, false, List, Some, None, length, take}
use Rattle.std.specs.List.{AllByRecursion, AllWithin, HoldsAt}
use Rattle.std.specs.Ordering.{is_lt, is_le}
use Rattle.std.specs.declared.cmp.Ordering.TheVariants.{Less}
use Rattle.uc_bytes.specs.Bytes.{bytes_cmp}
use Rattle.uc_oper.specs.Operation.{Operation}
use Rattle.uc_bytes.specs.declared.write.Write.{Write}
use Rattle.uc_model.specs.Meaning.{value_of}
use Rattle.uc_run.specs.BackCursors.{hidden_from}
use Rattle.uc_run.specs.Cursors.{Standing}
use Rattle.uc_run.specs.Hiding.{hidden_to}
use Rattle.uc_query_read.specs.Walks.{IsOfRun}

-- The first of the cursors' runs that hides a key, by its place, and where the hiding ends.
pub record IsHidden (cursors : List Standing) (key : List ℕ) (at place : ℕ) (end : List ℕ) : Type 0 where
  pub within : place < length cursors
  pub hides : HoldsAt (λ c. hidden_to c.run key at ≡ Some end) cursors place
  pub first : AllWithin (λ c. hidden_to c.run key at ≡ None) cursors 0 place
  -- it and the newer ones are runs
  pub are_runs : AllByRecursion IsOfRun (take (place + 1) cursors)

-- A bound is above a key, and no key between them has a value at a sequence.
pub record AreDead (m : Operation) (writes : List Write) (at : ℕ) (key bound : List ℕ) : Type 0 where
  pub above : bytes_cmp key bound ≡ Less
  pub dead : (x : List ℕ) → bytes_cmp key x ≡ Less → bytes_cmp x bound ≡ Less → value_of m writes x at ≡ None

-- One of the cursors' runs that hides a key, by its place, and where the hiding begins.
pub record IsHiddenFrom (cursors : List Standing) (key : List ℕ) (at place : ℕ) (begin : List ℕ) : Type 0 where
  pub within : place < length cursors
  pub hides : HoldsAt (λ c. hidden_from c.run key at ≡ Some begin) cursors place
  -- it and the newer ones are runs
  pub are_runs : AllByRecursion IsOfRun (take (place + 1) cursors)

-- A bound isn't above a key, and no key from the bound up to below the key has a value at a sequence.
pub record AreDeadBelow (m : Operation) (writes : List Write) (at : ℕ) (key bound : List ℕ) : Type 0 where
  pub below : is_le (bytes_cmp bound key) ≡ true
  pub dead : (x : List ℕ) → is_lt (bytes_cmp x bound) ≡ false → bytes_cmp x key ≡ Less → value_of m writes x at ≡ None

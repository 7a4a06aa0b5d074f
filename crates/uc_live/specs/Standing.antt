-- Stores that answer as writes do, wherever their runs come from: a store opened from the runs of a view has no history of its own.
use Rattle.std.specs.Prelude.{◌≡◌, ℕ, List, ◌++◌}
use Rattle.uc_bytes.specs.declared.write.Write.{Write}
use Rattle.uc_batch.specs.Rising.{last_of}
use Rattle.uc_oper.specs.Operation.{Operation}
use Rattle.uc_model.specs.Meaning.{value_of}
use Rattle.uc_compact.specs.Reading.{IsReadAt}
use Rattle.uc_version_state.specs.Versions.{Stored, IsVersion, writes_in}
use Rattle.uc_live.specs.Lives.{Live}

-- A version gives every key the value that these writes give it: at each keep, and from its last sequence on, which is theirs.
pub record ReadsAs (m : Operation) (v : Stored) (ws : List Write) : Type 0 where
  pub version : IsVersion v
  pub last : last_of 0 ws ≡ v.last
  pub values : (key : List ℕ) (at : ℕ) → IsReadAt v.keeps v.last at → value_of m (writes_in v) key at ≡ value_of m ws key at

-- The store's runs read as the first of these writes, and the others are in memtables.
pub record StandsFor (m : Operation) (l : Live) (ws : List Write) : Type 0 where
  pub older : List Write
  pub reads : ReadsAs m l.version older
  pub writes : older ++ l.gathered ≡ ws

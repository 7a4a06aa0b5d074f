-- The contents of a memtable that takes writes.
use Rattle.std.specs.Prelude.{ℕ, List}
use Rattle.uc_bytes.specs.declared.write.Write.{Write}

-- the writes that reads see, and the newer ones that are only prepared
pub record Gathering : Type 0 where
  pub shown : List Write
  pub waiting : List Write

-- the same, and how many of the first shown writes are set apart for a flush
pub record Gathered : Type 0 where
  pub shown : List Write
  pub waiting : List Write
  pub apart : ℕ

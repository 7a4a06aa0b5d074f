-- The contents of a live store at one point in time.
use Rattle.std.specs.Prelude.{ℕ, List, ◌++◌}
use Rattle.uc_bytes.specs.declared.write.Write.{Write}
use Rattle.uc_batch.specs.Rising.{last_of}
use Rattle.uc_version_state.specs.Versions.{Stored, writes_in}
use Rattle.uc_live.specs.Lives.{Live}

-- its version, and the writes that no run has yet, oldest first
pub record Seen : Type 0 where
  pub version : Stored
  pub gathered : List Write

-- what a store holds now
abbrev pub seen_in : Live → Seen
seen_in l = record { version = l.version; gathered = l.gathered }

-- its plain writes: those of the runs, and those in memtables
abbrev pub writes_of : Seen → List Write
writes_of s = writes_in s.version ++ s.gathered

-- the last sequence
abbrev pub last : Seen → ℕ
last s = last_of s.version.last s.gathered

-- The state of an opening after some writes.
use Rattle.std.specs.Prelude.{ℕ, List, [], ◌∷◌, length, Option, Some, None, ◌&&◌, if◌then◌else◌}
use Rattle.uc_bytes.specs.declared.write.Write.{Write}
use Rattle.uc_batch.specs.Rising.{last_of}
use Rattle.uc_run_entry.specs.Run.{Contents}
use Rattle.uc_run.specs.Flush.{flushed}
use Rattle.uc_version_state.specs.declared.options.Options.{Options}
use Rattle.uc_version_state.specs.Options.{are_good}
use Rattle.uc_version_state.specs.Flushes.{memtables}
use Rattle.uc_version_open.specs.Refusal.{are_few}

-- memtables in turn: the runs of all but the newest, the oldest first, and the writes of the newest
pub record Flushing : Type 0 where
  pub runs : List Contents
  pub newest : List Write

-- The state after the writes read up to now: the last sequence number, and their memtables, which are held only while the store may
-- still open.
pub record Progress : Type 0 where
  pub options : Options
  pub last : ℕ
  pub held : Option Flushing

-- these memtables, with only the newest not flushed yet
abbrev pub flushing_of : List (List Write) → Flushing
flushing_of [] = record { runs = []; newest = [] }
flushing_of (part ∷ []) = record { runs = []; newest = part }
flushing_of (part ∷ next ∷ parts) =
    record { runs = flushed part ∷ (flushing_of (next ∷ parts)).runs; newest = (flushing_of (next ∷ parts)).newest }

-- the memtables of some writes, as long as the options are good and each memtable has a slot for its run
abbrev pub held_of : Options → List (List Write) → Option Flushing
held_of options parts = if are_good options && are_few (length parts) then Some (flushing_of parts) else None

-- how far an opening has come after these writes
abbrev pub progress_of : Options → List Write → Progress
progress_of options writes = record { options = options; last = last_of 0 writes; held = held_of options (memtables options.memtable writes) }

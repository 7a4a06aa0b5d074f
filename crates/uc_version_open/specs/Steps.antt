-- The change of memtables by a write, and their final runs.
use Rattle.std.specs.Prelude.{ℕ, ◌+◌, ◌-◌, Bool, List, [], ◌∷◌, ◌++◌, length, Option, Some, None, ◌&&◌, nat_le, if◌then◌else◌}
use Rattle.uc_bytes.specs.declared.write.Write.{Write}
use Rattle.uc_claims.specs.declared.table.TheConstants.{MOST_SLOTS}
use Rattle.uc_run_entry.specs.Run.{Contents}
use Rattle.uc_run.specs.Size.{memtable_size}
use Rattle.uc_run.specs.Flush.{flushed}
use Rattle.uc_version_state.specs.declared.options.Options.{Options}
use Rattle.uc_version_state.specs.Versions.{Stored}
use Rattle.uc_version_state.specs.Flushes.{placed_onto}
use Rattle.uc_version_state.specs.Openings.{rising}
use Rattle.uc_version_open.specs.Progress.{Flushing}

-- whether the newest memtable is full
abbrev pub is_full : ℕ → Flushing → Bool
is_full limit f = nat_le limit (memtable_size f.newest)

-- whether the next write begins a memtable that has no slot for its run
abbrev pub is_spent : ℕ → Flushing → Bool
is_spent limit f = is_full limit f && nat_le (MOST_SLOTS - 1) (length f.runs)

-- a full memtable flushed, and one begun with a write
abbrev pub begun : Flushing → Write → Flushing
begun f w = record { runs = f.runs ++ flushed f.newest ∷ []; newest = w ∷ [] }

-- a write appended to the newest memtable
abbrev pub grown : Flushing → Write → Flushing
grown f w = record { runs = f.runs; newest = f.newest ++ w ∷ [] }

abbrev pub with_write : ℕ → Flushing → Write → Flushing
with_write limit f w = if is_full limit f then begun f w else grown f w

-- the next write for memtables, which may be dropped already
abbrev pub held_with : ℕ → Option Flushing → Write → Option Flushing
held_with limit None w = None
held_with limit (Some f) w = if is_spent limit f then None else Some (with_write limit f w)

-- the run of the writes left at the end, if there are some
abbrev pub rest_run : List Write → List Contents
rest_run [] = []
rest_run (w ∷ ws) = flushed (w ∷ ws) ∷ []

-- the runs of all memtables, the oldest first
abbrev pub all_runs : Flushing → List Contents
all_runs f = f.runs ++ rest_run f.newest

-- the version of memtables
abbrev pub version_of : Options → ℕ → Flushing → List ℕ → Stored
version_of options last f keeps = record {
  runs = placed_onto options.first_id [] (all_runs f);
  keeps = rising (keeps ++ last ∷ []);
  last = last;
  next_id = options.first_id + length (all_runs f);
  limit = options.memtable;
}

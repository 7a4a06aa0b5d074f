-- The effect of fed writes on a version: they fill memtables, whose runs come before all others (RocksDB wiki, "MemTable").
use Rattle.std.specs.Prelude.{ℕ, ◌+◌, ◌≤◌, ◌<◌, ◌^◌, Bool, true, false, List, [], ◌∷◌, length, Option, Some, None, nat_le, nat_lt}
use Rattle.uc_bytes.specs.declared.write.Write.{Write}
use Rattle.uc_batch.specs.Rising.{IsRising, last_of}
use Rattle.uc_claims.specs.declared.table.TheConstants.{MOST_SLOTS}
use Rattle.uc_run_entry.specs.Run.{Contents}
use Rattle.uc_version_state.specs.Versions.{Stored}
use Rattle.uc_version_state.specs.Flushes.{memtables, placed_onto, flushed_onto}
use Rattle.uc_version_state.specs.declared.feed_error.FeedError.{FeedError}
use Rattle.uc_version_state.specs.declared.feed_error.FeedError.TheVariants.{Back, TooManyRuns, IdsSpent}

-- the memtables that writes fill in a store
abbrev pub memtables_in : Stored → List Write → List (List Write)
memtables_in v ws = memtables v.limit ws

-- the version with runs before all others, the oldest first, and their last sequence
abbrev pub with_runs : List Contents → ℕ → Stored → Stored
with_runs runs last v = record v { runs = placed_onto v.next_id v.runs runs; last = last; next_id = v.next_id + length runs }

-- the version after writes were fed to it; of no writes it is the same
abbrev pub fed : List Write → Stored → Stored
fed ws v = record v {
  runs = flushed_onto v.next_id v.runs (memtables_in v ws);
  last = last_of v.last ws;
  next_id = v.next_id + length (memtables_in v ws);
}

-- When writes may be fed: they rise from the last sequence on, each run has a slot, and no id is 2^64 - 1.
pub record MayFeed (v : Stored) (ws : List Write) : Type 0 where
  pub rising : IsRising v.last ws
  pub few : length v.runs + length (memtables_in v ws) ≤ MOST_SLOTS
  pub ids_left : v.next_id + length (memtables_in v ws) < 2 ^ 64

-- whether the first of some writes is above a sequence
abbrev pub begin_above : ℕ → List Write → Bool
begin_above last [] = true
begin_above last (w ∷ ws) = nat_lt last w.seq

-- The first of these: a write at or below the last sequence, a run without a slot, an id that is never given.
abbrev pub first_feed_refusal : ℕ → Bool → Bool → Bool → Option FeedError
first_feed_refusal last false few ids = Some (Back last)
first_feed_refusal last true false ids = Some TooManyRuns
first_feed_refusal last true true false = Some IdsSpent
first_feed_refusal last true true true = None

-- why writes, which rise, aren't fed, if they aren't
abbrev pub feed_refusal : Stored → List Write → Option FeedError
feed_refusal v ws =
    first_feed_refusal v.last (begin_above v.last ws) (nat_le (length v.runs + length (memtables_in v ws)) MOST_SLOTS)
    (nat_lt (v.next_id + length (memtables_in v ws)) (2 ^ 64))

-- When a store isn't opened.
use Rattle.std.specs.Prelude.{ℕ, Bool, true, false, List, Option, Some, None, find, length, nat_lt, nat_le}
use Rattle.uc_batch.specs.Rising.{last_of}
use Rattle.uc_claims.specs.declared.table.TheConstants.{MOST_SLOTS}
use Rattle.uc_version_state.specs.Options.{are_good}
use Rattle.uc_version_state.specs.Flushes.{memtables}
use Rattle.uc_version_state.specs.Openings.{Opening}
use Rattle.uc_version_open.specs.declared.open_error.OpenError.{OpenError}
use Rattle.uc_version_open.specs.declared.open_error.OpenError.TheVariants.{BadOption, SnapshotAhead, TooManyRuns}

-- the first sequence above the last one, in the order in which they are given
abbrev pub first_ahead : ℕ → List ℕ → Option ℕ
first_ahead last keeps = find (λ keep. nat_lt last keep) keeps

-- whether there is a slot for the run of each memtable
abbrev pub are_few : ℕ → Bool
are_few runs = nat_le runs MOST_SLOTS

-- The first of these: an option out of its range, a snapshot ahead of the writes, a run without a slot.
abbrev pub first_refusal : Bool → Option ℕ → Bool → Option OpenError
first_refusal false ahead few = Some BadOption
first_refusal true (Some keep) few = Some (SnapshotAhead keep)
first_refusal true None false = Some TooManyRuns
first_refusal true None true = None

-- why a store isn't opened, if it isn't
abbrev pub opening_refusal : Opening → Option OpenError
opening_refusal o =
    first_refusal (are_good o.options) (first_ahead (last_of 0 o.writes) o.keeps) (are_few (length (memtables o.options.memtable o.writes)))

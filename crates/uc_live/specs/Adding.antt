-- Runs that are added to a live store before all others: those of a view, read back from their files, the oldest first.
use Rattle.std.specs.Prelude.{◌≡◌, ℕ, ◌<◌, false, [], ◌∷◌, length}
use Rattle.std.specs.List.{list_any}
use Rattle.uc_claims.specs.declared.table.TheConstants.{MOST_SLOTS}
use Rattle.uc_run_entry.specs.Run.{Contents}
use Rattle.uc_version_state.specs.Versions.{Stored}
use Rattle.uc_version_state.specs.Installs.{IdLeft}
use Rattle.uc_version_state.specs.Feeds.{with_runs}
use Rattle.uc_version.specs.Owners.{Owner, is_busy, unclaimed}
use Rattle.uc_live.specs.Lives.{Live, owner_in}
use Rattle.uc_live.specs.declared.add_run_error.AddRunError.{AddRunError}
use Rattle.uc_live.specs.declared.add_run_error.AddRunError.TheVariants.{Order, Busy, Full, Memory}

-- the store with one run more, whose last sequence becomes the store's, and without claims
abbrev pub with_run : Contents → Live → Live
with_run run l =
    let version = with_runs (run ∷ []) run.high l.version in
    record l { version = version; claims = (unclaimed version l.options.store).claims }

-- The run is above all that the version has.
abbrev pub IsAbove : Stored → Contents → Type 0
IsAbove v run = v.last < run.low

-- No run is claimed.
abbrev pub IsUnclaimed : Owner → Type 0
IsUnclaimed o = list_any (λ p. is_busy o p.slot) o.version.runs ≡ false

-- No write is in memtables or prepared, and no run is claimed.
abbrev pub IsQuiet : Live → Type 0
IsQuiet l = (l.gathered ≡ []) × (l.prepared ≡ []) × IsUnclaimed (owner_in l)

-- A slot is left for a run, and an id.
abbrev pub HasPlace : Stored → Type 0
HasPlace v = (length v.runs < MOST_SLOTS) × IdLeft v

-- Why a run isn't added.
abbrev pub RefusesRun : Live → Contents → AddRunError → Type 0
RefusesRun l run Order = IsAbove l.version run → ⊥
RefusesRun l run Busy = IsQuiet l → ⊥
RefusesRun l run Full = HasPlace l.version → ⊥
RefusesRun l run Memory = Unit {0}

-- The run is added, and has an id.
pub record AddsRun (old new : Live) (run : Contents) (id : ℕ) : Type 0 where
  pub above : IsAbove old.version run
  pub quiet : IsQuiet old
  pub place : HasPlace old.version
  pub id_is : id ≡ old.version.next_id
  pub new_is : new ≡ with_run run old

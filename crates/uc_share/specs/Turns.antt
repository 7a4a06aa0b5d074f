-- The result of a compactor's turn.
use Rattle.std.specs.Prelude.{◌≡◌, ◌≢◌, ⊤, List, Option, Some, None, Result, Ok, Err, fold}
use mathlib.Core.List.{IsPrefix}
use Rattle.uc_claims.specs.Holding.{Holding}
use Rattle.uc_oper.specs.Operation.{Operation}
use Rattle.uc_version_state.specs.declared.options.Options.{Options}
use Rattle.uc_version_state.specs.declared.stretch.Stretch.{Stretch}
use Rattle.uc_version_state.specs.declared.event.Event.{Event}
use Rattle.uc_version_state.specs.Versions.{Stored}
use Rattle.uc_version_state.specs.Histories.{after}
use Rattle.uc_version_compact.specs.Compacting.{compaction_at, runs_at}
use Rattle.uc_version_compact.specs.declared.claim_error.ClaimError.{ClaimError}
use Rattle.uc_version_compact.specs.declared.claim_error.ClaimError.TheVariants as refused
use Rattle.uc_version_compact.specs.declared.install_error.InstallError.{InstallError}
use Rattle.uc_version_compact.specs.declared.install_error.InstallError.TheVariants.{Memory}
use Rattle.uc_share.specs.declared.turn.Turn.{Turn}
use Rattle.uc_share.specs.declared.turn.Turn.TheVariants.{Idle, Late, Installed}
use Rattle.uc_share.specs.Fronts.{Moment}
use Rattle.uc_share.specs.Picking.{IsPick}
use Rattle.uc_share.specs.Claims.{IsClaimRefused}
use Rattle.uc_share.specs.Installing.{EndsWith, IsOwnRefusal, ShowsRefusal, event_of}

-- A turn in a store that is compacted so and was opened with this version: with which seat, and what its reader had seen of the
-- history before it, and has seen after it
pub record Turning : Type 0 where
  pub options : Options
  pub base : Stored
  pub seat : Holding
  pub old : List Event
  pub new : List Event

abbrev pub turning : Options → Stored → Holding → List Event → List Event → Turning
turning options base seat old new = record { options = options; base = base; seat = seat; old = old; new = new }

-- a compactor: the seat that it has between turns, and what its reader has seen of the history
pub record Seated : Type 0 where
  pub seat : Option Holding
  pub seen : List Event

-- a stretch that the turn picks, of a version that it pins: it comes after all that the reader had seen, and the reader has seen it
pub record IsPicked (t : Turning) (pin : Moment) (s : Stretch) : Type 0 where
  pub behind : IsPrefix t.old pin.events
  pub seen : IsPrefix pin.events t.new
  pub version_is : pin.version ≡ fold after t.base pin.events
  pub picked : IsPick t.options t.seat.whole pin.version (Some s)

-- the version that the reader has seen after the turn
abbrev pub last_seen : Turning → Stored
last_seen t = fold after t.base t.new

-- the claim fails because another compactor was faster
abbrev pub IsOutrun : ClaimError → Type 0
IsOutrun refused.OutOfRange = ⊥
IsOutrun refused.TooNarrow = ⊥
IsOutrun (refused.Busy slot) = ⊤
IsOutrun refused.Moved = ⊤
IsOutrun refused.Memory = ⊥

-- The result of the turn: nothing is picked in the version that was seen last; or the claim of the picked stretch fails; or the
-- history that was seen ends with the event that installs the compaction of that stretch.
abbrev pub CameOf : Operation → Turning → Turn → Type 0
CameOf m t Idle = IsPick t.options t.seat.whole (last_seen t) None
CameOf m t (Late error) =
    (pin : Moment) × (s : Stretch) × IsPicked t pin s × IsOutrun error × IsClaimRefused t.seat pin s (last_seen t) error
CameOf m t Installed =
    (pin : Moment) × (s : Stretch) × IsPicked t pin s
    × EndsWith pin.events (event_of m (runs_at pin.version s) (compaction_at pin.version s)) t.new

-- the version that was seen last shows why the compaction of what was picked isn't installed
abbrev pub IsUninstalled : Turning → InstallError → Type 0
IsUninstalled t error =
    (pin : Moment) × (s : Stretch) × IsPicked t pin s
    × ShowsRefusal (last_seen t) (runs_at pin.version s) (compaction_at pin.version s) error

-- Why nothing came of it: memory ran out; or the runs of what was picked stand no more, or no id is left, as the version that was
-- seen last shows.
abbrev pub FailedFor : Turning → InstallError → Type 0
FailedFor t error = IsOwnRefusal error × (error ≢ Memory → IsUninstalled t error)

-- the result of a turn whose claim fails
abbrev pub refused_turn : ClaimError → Result Turn InstallError
refused_turn refused.OutOfRange = Ok (Late refused.OutOfRange)
refused_turn refused.TooNarrow = Ok (Late refused.TooNarrow)
refused_turn (refused.Busy slot) = Ok (Late (refused.Busy slot))
refused_turn refused.Moved = Ok (Late refused.Moved)
refused_turn refused.Memory = Err Memory

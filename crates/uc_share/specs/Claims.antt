-- Claims of stretches of pinned versions.
use Rattle.std.specs.Prelude.{◌≡◌, ◌≢◌, true, ◌+◌, ◌≤◌, Some, None, Contains, List, length}
use Rattle.uc_claims.specs.Holding.{Holding}
use Rattle.uc_version_state.specs.declared.stretch.Stretch.{Stretch}
use Rattle.uc_version_state.specs.Versions.{PlacedRun, Stored, ids_of, slots_of}
use Rattle.uc_version_state.specs.Refusals.{AreInPlace}
use Rattle.uc_version_compact.specs.Ranges.{range_refusal}
use Rattle.uc_version_compact.specs.Compacting.{runs_at}
use Rattle.uc_version_compact.specs.declared.claim_error.ClaimError.{ClaimError}
use Rattle.uc_version_compact.specs.declared.claim_error.ClaimError.TheVariants as refused
use Rattle.uc_share.specs.declared.held.LookError.{LookError}
use Rattle.uc_share.specs.declared.held.LookError.TheVariants.{Moved, Memory}
use Rattle.uc_version_state.specs.declared.event.Event.{Event}
use Rattle.uc_share.specs.Fronts.{Moment}

-- a claim: the seat with the slots that it holds, the pinned version with the history that leads to it, and the stretch
pub record Claim : Type 0 where
  pub seat : Holding
  pub pin : Moment
  pub stretch : Stretch

-- the pinned runs of a stretch
abbrev pub pinned_runs : Moment → Stretch → List PlacedRun
pinned_runs pin s = runs_at pin.version s

-- the runs that were claimed
abbrev pub claimed_runs : Claim → List PlacedRun
claimed_runs c = pinned_runs c.pin c.stretch

-- the claim of a stretch of a pinned version by a seat
abbrev pub claim_of : Holding → Moment → Stretch → Claim
claim_of seat pin s = record { seat = record seat { slots = slots_of (pinned_runs pin s) }; pin = pin; stretch = s }

-- the stretch is two runs or more, all there, and the seat holds their slots
pub record IsClaim (c : Claim) : Type 0 where
  pub two : 2 ≤ c.stretch.count
  pub within : c.stretch.first + c.stretch.count ≤ length c.pin.version.runs
  pub slots : c.seat.slots ≡ slots_of (claimed_runs c)

-- Why a stretch of a pinned version isn't claimed with a seat, if this is the version that the caller has seen then: the first of
-- these that holds. A whole seat never gets `Busy`. `Memory` is returned only for a stretch that may be claimed.
abbrev pub IsClaimRefused : Holding → Moment → Stretch → Stored → ClaimError → Type 0
IsClaimRefused seat pin s present refused.OutOfRange = range_refusal (length pin.version.runs) s ≡ Some refused.OutOfRange
IsClaimRefused seat pin s present refused.TooNarrow = range_refusal (length pin.version.runs) s ≡ Some refused.TooNarrow
IsClaimRefused seat pin s present (refused.Busy slot) =
    (range_refusal (length pin.version.runs) s ≡ None) × Contains (slots_of (pinned_runs pin s)) slot × (seat.whole ≢ true)
IsClaimRefused seat pin s present refused.Moved =
    (range_refusal (length pin.version.runs) s ≡ None) × ¬ AreInPlace present (ids_of (pinned_runs pin s))
IsClaimRefused seat pin s present refused.Memory = range_refusal (length pin.version.runs) s ≡ None

-- Why no claim is made of slots that are taken: their runs don't stand in the version that the look showed; or memory ran out, and
-- the look showed nothing.
abbrev pub IsLookRefused : Claim → List Event → List Event → Stored → LookError → Type 0
IsLookRefused c before seen present Moved = ¬ AreInPlace present (ids_of (claimed_runs c))
IsLookRefused c before seen present Memory = seen ≡ before

-- the error that says so
abbrev pub claim_error : LookError → ClaimError
claim_error Moved = refused.Moved
claim_error Memory = refused.Memory

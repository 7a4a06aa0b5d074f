-- Claims and picks lie within the runs.
use Rattle.std.proofs.Common.{◌≡◌, ℕ, ◌+◌, ◌≤◌, List, length, sym, subst}
use Rattle.std.specs.Prelude.{Option, Some, None, IfSome}
use Rattle.uc_version_state.specs.declared.candidate.Candidate.{Candidate}
use Rattle.uc_version_state.specs.declared.options.Options.{Options}
use Rattle.uc_version_state.specs.declared.stretch.Stretch.{Stretch}
use Rattle.uc_version_state.specs.Picks.{picked}
use Rattle.uc_version_state.specs.Versions.{Stored}
use Rattle.uc_version_state.specs.declared.event.Event.{Event}
use Rattle.uc_version_compact.specs.Ranges.{range_refusal}
use Rattle.uc_version_compact.proofs.InRange.{in_range}
use Rattle.uc_claims.specs.Holding.{Holding}
use Rattle.uc_share.specs.Claims.{Claim, IsClaim, IsClaimRefused, IsLookRefused, claim_error}
use Rattle.uc_share.specs.declared.held.LookError.{LookError}
use Rattle.uc_share.specs.declared.held.LookError.TheVariants.{Moved, Memory}

-- a claim that fails after its slots were taken doesn't fail for its range
pub look_refused : (seat : Holding) (c : Claim) (before seen : List Event) (present : Stored) (error : LookError) → IsClaim c → IsLookRefused c before seen present error → IsClaimRefused seat c.pin c.stretch present (claim_error error)
look_refused seat c before seen present Moved is h = (in_range (length c.pin.version.runs) c.stretch is.two is.within, h)
look_refused seat c before seen present Memory is h = in_range (length c.pin.version.runs) c.stretch is.two is.within

-- a stretch that is picked of a version is in range
pub pick_in_range : (o : Options) (runs : List Candidate) (n : ℕ) (r : Option Stretch) → r ≡ picked o runs → length runs ≡ n
    → ((s : Stretch) → picked o runs ≡ Some s → s.first + s.count ≤ length runs) → ((s : Stretch) → picked o runs ≡ Some s → 2 ≤ s.count)
    → IfSome r (λ s. range_refusal n s ≡ None)
pick_in_range o runs n None is len there two = tt
pick_in_range o runs n (Some s) is len there two = in_range n s (two s (sym is)) (subst (λ (k : ℕ). s.first + s.count ≤ k) len (there s (sym is)))

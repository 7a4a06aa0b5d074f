-- The result of a turn, by the results of its steps.
use Rattle.std.proofs.Common.{◌≡◌, ◌≢◌, Bool, List, length, fold, refl, sym, subst}
use Rattle.std.specs.Prelude.{Option, Some, None, Result, Ok, Err, IfOk, IfErr, OnOk}
use mathlib.Core.List.{IsPrefix}
use Rattle.logbook.specs.Pages.{Book}
use Rattle.uc_oper.specs.Operation.{Operation}
use Rattle.uc_compact.specs.Inputs.{Compaction}
use Rattle.uc_version_state.specs.declared.event.Event.{Event}
use Rattle.uc_version_state.specs.declared.options.Options.{Options}
use Rattle.uc_version_state.specs.declared.stretch.Stretch.{Stretch}
use Rattle.uc_version_state.specs.Versions.{Stored}
use Rattle.uc_version_state.specs.Histories.{after}
use Rattle.uc_version_compact.specs.Ranges.{range_refusal}
use Rattle.uc_version_compact.specs.Compacting.{compaction_at}
use Rattle.uc_version_compact.specs.declared.claim_error.ClaimError.{ClaimError}
use Rattle.uc_version_compact.specs.declared.claim_error.ClaimError.TheVariants as refused
use Rattle.uc_version_compact.specs.declared.install_error.InstallError.{InstallError}
use Rattle.uc_version_compact.specs.declared.install_error.InstallError.TheVariants.{Memory}
use Rattle.uc_share.specs.declared.turn.Turn.{Turn}
use Rattle.uc_share.specs.declared.turn.Turn.TheVariants.{Late, Installed}
use Rattle.uc_share.specs.Fronts.{Moment, moment}
use Rattle.uc_share.specs.Picking.{IsPick}
use Rattle.uc_share.specs.Claims.{Claim, IsClaimRefused, claim_of, claimed_runs}
use Rattle.uc_share.specs.Installing.{EndsWith, IsOwnRefusal, ShowsRefusal, event_of}
use Rattle.uc_share.specs.Turns.{CameOf, FailedFor, IsPicked, Turning, last_seen, refused_turn}
use Rattle.uc_share.proofs.Prefixes.{prefix_behind}

-- the result of a turn with a failed claim is the one of its definition
pub refused_late : (error : ClaimError) → error ≢ refused.Memory → Ok (Late error) ≡ refused_turn error
refused_late refused.OutOfRange ne = refl
refused_late refused.TooNarrow ne = refl
refused_late (refused.Busy slot) ne = refl
refused_late refused.Moved ne = refl
refused_late refused.Memory ne = absurd (ne refl)

-- nothing is picked of the version that was pinned last
pub idle : (o : Options) (whole : Bool) (book : Book) (base : Stored) (seen : List Event) (pin : Moment) (r : Option Stretch) → pin ≡ moment book (fold after base seen) seen → IsPick o whole pin.version r → r ≡ None → IsPick o whole (fold after base seen) None
idle o whole book base seen pin r is pick none =
    subst (λ (x : Option Stretch). IsPick o whole (fold after base seen) x) none (subst (λ (p : Moment). IsPick o whole p.version r) is pick)

-- a stretch is picked of a version that the turn pinned
pub is_picked : (t : Turning) (book : Book) (seen : List Event) (pin : Moment) (s : Stretch) (r : Option Stretch) → IsPrefix t.old seen → IsPrefix seen t.new → pin ≡ moment book (fold after t.base seen) seen → IsPick t.options t.seat.whole pin.version r → r ≡ Some s → IsPicked t pin s
is_picked t book seen pin s r front back is pick some = record {
  behind = subst (λ (p : Moment). IsPrefix t.old p.events) (sym is) front;
  seen = subst (λ (p : Moment). IsPrefix p.events t.new) (sym is) back;
  version_is = subst (λ (p : Moment). p.version ≡ fold after t.base p.events) (sym is) refl;
  picked = subst (λ (x : Option Stretch). IsPick t.options t.seat.whole pin.version x) some pick;
}

-- the claim of it fails
pub late : (m : Operation) (t : Turning) (pin : Moment) (s : Stretch) (error : ClaimError) → IsPicked t pin s → range_refusal (length pin.version.runs) s ≡ None → IsClaimRefused t.seat pin s (last_seen t) error → IfOk (refused_turn error) (CameOf m t)
late m t pin s refused.OutOfRange is range h = absurd (cc (range, h))
late m t pin s refused.TooNarrow is range h = absurd (cc (range, h))
late m t pin s (refused.Busy slot) is range h = (pin, s, is, tt, h)
late m t pin s refused.Moved is range h = (pin, s, is, tt, h)
late m t pin s refused.Memory is range h = tt

pub late_failed : (t : Turning) (error : ClaimError) → IfErr (refused_turn error) (FailedFor t)
late_failed t refused.OutOfRange = tt
late_failed t refused.TooNarrow = tt
late_failed t (refused.Busy slot) = tt
late_failed t refused.Moved = tt
late_failed t refused.Memory = (tt, λ ne. absurd (ne refl))

-- the compaction of a claim, and its event
abbrev pub made_of : Claim → Compaction
made_of c = compaction_at c.pin.version c.stretch

abbrev pub event_made : Operation → Claim → Event
event_made m c = event_of m (claimed_runs c) (made_of c)

-- the claim is made, and its compaction is installed
pub finished : (m : Operation) (t : Turning) (pin : Moment) (s : Stretch) (held : Claim) (between : List Event) (came : Result Turn InstallError) → IsPicked t pin s → held ≡ claim_of t.seat pin s → IsPrefix pin.events between → IfOk came (λ turn. turn ≡ Installed) → OnOk came (EndsWith between (event_made m held) t.new) → IfOk came (CameOf m t)
finished m t pin s held between (Ok turn) is claim front which ends =
    let here : EndsWith between (event_made m (claim_of t.seat pin s)) t.new = subst (λ (c : Claim). EndsWith between (event_made m c) t.new) claim ends in
    subst (CameOf m t) (sym which) (pin, s, is, (here.0, prefix_behind pin.events between here.0 front here.1, here.2))
finished m t pin s held between (Err error) is claim front which ends = tt

-- it is made, and its compaction isn't installed
pub unfinished : (t : Turning) (pin : Moment) (s : Stretch) (held : Claim) (came : Result Turn InstallError) → IsPicked t pin s → held ≡ claim_of t.seat pin s → IfErr came IsOwnRefusal → IfErr came (λ error. error ≢ Memory → ShowsRefusal (last_seen t) (claimed_runs held) (made_of held) error) → IfErr came (FailedFor t)
unfinished t pin s held (Ok turn) is claim own h = tt
unfinished t pin s held (Err error) is claim own h = (
  own,
  λ ne.
      (pin, s, is, subst (λ (c : Claim). ShowsRefusal (last_seen t) (claimed_runs c) (made_of c) error) claim (h ne)),
)

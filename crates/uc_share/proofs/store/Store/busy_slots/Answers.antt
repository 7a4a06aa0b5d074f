use Rattle.std.proofs.Common.{◌≡◌, ◌∙◌, Bool, ap, false, refl}
use Rattle.std.proofs.lemmas.List.Elements.{All-replicate, All-set}
use Rattle.uc_claims.specs.Holding.{Holding}
use Rattle.uc_claims.specs.declared.table.TheConstants.{MOST_SLOTS}
use Rattle.uc_share.proofs.store.Store.busy_slots.Goals as goal

pub loop-slot-init : goal.loop-slot-init
loop-slot-init g c = (refl, λ whole. All-replicate (λ (flag : Bool). flag ≡ false) MOST_SLOTS false refl)

pub loop-slot-preserved : goal.loop-slot-preserved
loop-slot-preserved g c =
    let same = c.loop-slot.invariant.0 in (
      c.busy.ensures.seat ∙ same,
      λ whole. All-set (λ (flag : Bool). flag ≡ false) c.loop-slot.busy c.loop-slot.slot c.busy.result
          (c.busy.ensures.whole (ap (λ (seat : Holding). seat.whole) same ∙ whole)) (c.loop-slot.invariant.1 whole),
    )

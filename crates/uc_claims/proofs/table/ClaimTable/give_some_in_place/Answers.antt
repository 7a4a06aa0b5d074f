use Rattle.std.proofs.Common.{ℕ, List, [], ◌∷◌, get_or, take, sym, ap, ◌∙◌, subst}
use Rattle.std.specs.Prelude.{Contains}
use Rattle.std.proofs.lemmas.List.{take_more}
use Rattle.uc_claims.specs.Holding.{Holding, without}
use Rattle.uc_claims.proofs.Times.{without-nil, without_push, still_held}
use Rattle.uc_claims.proofs.table.ClaimTable.give_some_in_place.Goals as goal

pub loop-slot-init : goal.loop-slot-init
loop-slot-init c = ap (λ slots. record c.args.held.now { slots = slots }) (sym (without-nil c.args.held.now.slots))

pub free-requires-clause-held : goal.free-requires-clause-held
free-requires-clause-held c =
    subst (λ slots. Contains slots (get_or c.args.slots.now c.loop-slot.slot-index 0)) (sym (ap (λ h. h.slots) c.loop-slot.invariant))
    (still_held c.args.slots.now c.args.held.now.slots c.loop-slot.slot-index c.loop-slot-test.true c.requires.distinct c.requires.held)

pub loop-slot-preserved : goal.loop-slot-preserved
loop-slot-preserved c =
    let slots = c.args.slots.now in
    let held = c.args.held.now in
    let i = c.loop-slot.slot-index in
    c.free.ensures
    ∙ ap {A = Holding} {B = Holding} (λ h. record h { slots = without (get_or slots i 0 ∷ []) h.slots }) c.loop-slot.invariant
    ∙ ap {A = List ℕ} {B = Holding} (λ left. record held { slots = left }) (without_push (take i slots) (get_or slots i 0) held.slots ∙ ap (λ gone. without gone held.slots) (sym (take_more slots i 0 c.loop-slot-test.true)))

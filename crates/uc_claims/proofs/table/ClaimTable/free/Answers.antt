use Rattle.std.proofs.Common.{ℕ, List, ap, sym, ◌∙◌, arith, subst}
use Rattle.std.specs.Prelude.{Contains}
use Rattle.uc_claims.specs.Claims.{Recorded}
use Rattle.uc_claims.proofs.Times.{times-from_Contains}
use Rattle.uc_claims.proofs.Records.{held_below, Recorded-gave}
use Rattle.uc_claims.proofs.Moves.{gives}
use Rattle.uc_claims.proofs.table.ClaimTable.free.Goals as goal

pub store-requires : goal.store-requires
store-requires c =
    let same = ap (λ s. s.table) c.held.view_is ∙ c.requires.table ∙ sym (ap (λ t. t.table) c.self.view_is) in
    let has = subst (λ slots. Contains slots c.args.slot) (sym (ap (λ h. h.slots) c.held.view_is)) c.requires.held in
    let below = held_below c.held.invariant.1 c.args.slot has in
    let words = ap (λ t. t.words) same in
    (same, omega arith, gives _ _ _ c.args.slot _ (omega (arith, c.self.invariant.keyed)) (times-from_Contains _ _ has))

pub remove-requires : goal.remove-requires
remove-requires c =
    let same = ap (λ s. s.table) c.held.view_is ∙ c.requires.table ∙ sym (ap (λ t. t.table) c.self.view_is) in
    let has = subst (λ slots. Contains slots c.args.slot) (sym (ap (λ h. h.slots) c.held.view_is)) c.requires.held in
    let below = held_below c.held.invariant.1 c.args.slot has in
    let words = ap (λ t. t.words) same in
    omega (arith, c.self.invariant.few)

pub invariant_of-held : goal.invariant_of-held
invariant_of-held c =
    let same = ap (λ s. s.table) c.held.view_is ∙ c.requires.table ∙ sym (ap (λ t. t.table) c.self.view_is) in
    let has = subst (λ slots. Contains slots c.args.slot) (sym (ap (λ h. h.slots) c.held.view_is)) c.requires.held in
    let below = held_below c.held.invariant.1 c.args.slot has in
    let words = ap (λ t. t.words) same in
    let e = c.store.ensures in
    let groups = c.remove.new.self.groups in (
      e.2.0 ∙ c.held.invariant.0,
      subst (λ (n : ℕ). Recorded n groups c.store.new.seat.me.0.slots) (sym (ap (λ t. t.words) e.0))
          (subst (λ (slots : List ℕ). Recorded c.held.inside.token.table_id.words groups slots) (sym (ap (λ v. v.slots) e.2.1))
          (Recorded-gave _ c.args.slot _ groups _ c.held.invariant.1 c.remove.ensures.others c.remove.ensures.same)),
    )

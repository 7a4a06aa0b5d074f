use Rattle.std.proofs.Common.{ℕ, List, eq-eqb, ne_eqb, ap, sym, ◌∙◌, arith, subst}
use Rattle.std.specs.Prelude.{Contains}
use Rattle.std.proofs.lemmas.Bool.{MatchBool-at_true, MatchBool-at_false}
use Rattle.uc_claims.specs.Claims.{Recorded}
use Rattle.uc_claims.proofs.Times.{Contains-from_times}
use Rattle.uc_claims.proofs.Records.{Recorded-won}
use Rattle.uc_claims.proofs.Moves.{exchanges}
use Rattle.uc_claims.proofs.table.ClaimTable.try_take.Goals as goal

pub compare_exchange-found-requires : goal.compare_exchange-found-requires
compare_exchange-found-requires c =
    let same = ap (λ s. s.table) c.held.view_is ∙ c.requires.table ∙ sym (ap (λ t. t.table) c.self.view_is) in
    let count = ap (λ t. t.count) c.self.view_is in
    (same, omega (arith, c.requires.below), exchanges _ _ _ c.args.slot _ (omega (arith, c.self.invariant.keyed, c.requires.below)))

-- the exchange was lost, and nothing changed
pub invariant_of-held : goal.invariant_of-held
invariant_of-held c =
    let e = c.compare_exchange-found.ensures in
    let lost = MatchBool-at_false _ _ (ne_eqb _ 0 c.if-found-ne-FREE.true) e.2.1 in (
      e.2.0 ∙ c.held.invariant.0,
      subst (λ (n : ℕ). Recorded n c.held.inside.set.groups c.compare_exchange-found.new.seat.me.0.slots) (sym (ap (λ t. t.words) e.0))
          (subst (λ (slots : List ℕ). Recorded c.held.inside.token.table_id.words c.held.inside.set.groups slots) (sym (ap (λ v. v.slots) lost.0)) c.held.invariant.1),
    )

pub invariant_of-held-2 : goal.invariant_of-held-2
invariant_of-held-2 c =
    let same = ap (λ s. s.table) c.held.view_is ∙ c.requires.table ∙ sym (ap (λ t. t.table) c.self.view_is) in
    let count = ap (λ t. t.count) c.self.view_is in
    let words = ap (λ t. t.words) same in
    let e = c.compare_exchange-found.ensures in
    let won = MatchBool-at_true _ _ (eq-eqb _ 0 c.if-found-ne-FREE.false) e.2.1 in
    let groups = c.add.new.self.groups in (
      e.2.0 ∙ c.held.invariant.0,
      subst (λ (n : ℕ). Recorded n groups c.compare_exchange-found.new.seat.me.0.slots) (sym (ap (λ t. t.words) e.0))
          (subst (λ (slots : List ℕ). Recorded c.held.inside.token.table_id.words groups slots) (sym (ap (λ v. v.slots) won.0))
          (Recorded-won _ c.args.slot _ groups _ c.held.invariant.1 c.add.ensures.others c.add.ensures.same (omega (arith, c.requires.below)) won.1)),
    )

pub add-requires : goal.add-requires
add-requires c =
    let count = ap (λ t. t.count) c.self.view_is in
    omega (arith, c.self.invariant.few, c.requires.below)

pub returns-then-found-ne-FREE-clause-lost : goal.returns-then-found-ne-FREE-clause-lost
returns-then-found-ne-FREE-clause-lost c whole =
    let lost = MatchBool-at_false _ _ (ne_eqb _ 0 c.if-found-ne-FREE.true) c.compare_exchange-found.ensures.2.1 in
    subst (λ slots. Contains slots c.args.slot) (ap (λ h. h.slots) c.held.view_is) (Contains-from_times c.args.slot _ (lost.1 (ap (λ h. h.whole) c.held.view_is ∙ whole)))

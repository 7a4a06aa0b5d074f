use Rattle.std.proofs.Common.{ℕ, List, [], ◌∷◌, ◌++◌, get_or, take, sym, ap, ◌∙◌, subst, arith}
use Rattle.std.specs.Prelude.{Contains, All}
use Rattle.std.proofs.lemmas.Bool.{MatchBool-at_true, MatchBool-at_false, OnTrue_at, OnFalse_at}
use Rattle.std.proofs.lemmas.List.{append_assoc, take_more, take_all}
use Rattle.std.proofs.lemmas.List.Elements.{All-contains_itself, All-more, All-weaker, Contains-append_left, Contains-append_right, Contains-get_or}
use Rattle.uc_claims.specs.Holding.{Holding, without, NoneHeld}
use Rattle.uc_claims.proofs.Times.{AreDistinct-take, taken_back, first_held}
use Rattle.uc_claims.proofs.table.ClaimTable.take_more_in_place.Goals as goal

pub give_some_in_place-requires-clause-distinct : goal.give_some_in_place-requires-clause-distinct
give_some_in_place-requires-clause-distinct c = AreDistinct-take c.loop-taken.taken c.args.slots.now c.requires.distinct

pub give_some_in_place-requires-clause-held : goal.give_some_in_place-requires-clause-held
give_some_in_place-requires-clause-held c =
    let own = c.args.held.now.slots in
    let taken = take c.loop-taken.taken c.args.slots.now in
    let same = MatchBool-at_false _ _ c.if-not-try_take.true c.try_take.ensures.held ∙ c.loop-taken.invariant.held in
    subst (λ (slots : List ℕ). All (Contains slots) taken) (sym (ap (λ h. h.slots) same))
    (All-weaker (Contains taken) (Contains (own ++ taken)) (λ x has. Contains-append_right own taken x has) taken (All-contains_itself taken))

pub returns-then-not-try_take-clause-busy : goal.returns-then-not-try_take-clause-busy
returns-then-not-try_take-clause-busy c =
    let own = c.args.held.now.slots in
    let taken = take c.loop-taken.taken c.args.slots.now in
    let same = MatchBool-at_false _ _ c.if-not-try_take.true c.try_take.ensures.held ∙ c.loop-taken.invariant.held in (
      c.give_some_in_place.ensures
          ∙ ap {A = Holding} {B = Holding} (λ h. record h { slots = without taken h.slots }) same
          ∙ ap {A = List ℕ} {B = Holding} (λ slots. record c.args.held.now { slots = slots }) (taken_back own taken c.loop-taken.invariant.apart),
      Contains-get_or c.args.slots.now c.loop-taken.taken 0 c.loop-taken-test.true,
    )

pub returns-then-not-try_take-clause-whole : goal.returns-then-not-try_take-clause-whole
returns-then-not-try_take-clause-whole c whole =
    let i = c.loop-taken.taken in
    let slot = get_or c.args.slots.now i 0 in
    let before = c.loop-taken.invariant.held in
    let has = OnFalse_at c.if-not-try_take.true c.try_take.ensures.lost (ap (λ h. h.whole) before ∙ whole) in
    first_held c.args.slots.now c.args.held.now.slots i c.loop-taken-test.true c.requires.distinct c.loop-taken.invariant.apart (subst (λ slots. Contains slots slot) (ap (λ h. h.slots) before) has)

pub loop-taken-preserved : goal.loop-taken-preserved
loop-taken-preserved c =
    let i = c.loop-taken.taken in
    let slots = c.args.slots.now in
    let own = c.args.held.now.slots in
    let slot = get_or slots i 0 in
    let before = c.loop-taken.invariant.held in
    let won = MatchBool-at_true _ _ c.if-not-try_take.false c.try_take.ensures.held in
    let new = OnTrue_at c.if-not-try_take.false c.try_take.ensures.won in
    record {
      held = won
          ∙ ap {A = Holding} {B = Holding} (λ h. record h { slots = h.slots ++ slot ∷ [] }) before
          ∙ ap {A = List ℕ} {B = Holding} (λ more. record c.args.held.now { slots = more }) (append_assoc own (take i slots) (slot ∷ []) ∙ ap (λ xs. own ++ xs) (sym (take_more slots i 0 c.loop-taken-test.true)));
      apart = All-more (λ x. ¬ Contains own x) slots i 0 c.loop-taken-test.true c.loop-taken.invariant.apart
          (λ has. new (subst (λ xs. Contains xs slot) (sym (ap (λ h. h.slots) before)) (Contains-append_left own (take i slots) slot has)));
    }

pub returns-clause-apart : goal.returns-clause-apart
returns-clause-apart c = subst (λ slots. NoneHeld slots c.args.held.now.slots) (take_all c.loop-taken.taken c.args.slots.now (omega arith)) c.loop-taken.invariant.apart

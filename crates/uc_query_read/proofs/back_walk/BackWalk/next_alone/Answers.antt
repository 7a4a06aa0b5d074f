use Rattle.std.proofs.Common.{rules, ◌≡◌, ◌++◌, false, List, Some, length, map, take, drop, option_map, refl, sym, ap, ◌∙◌, subst}
use Rattle.std.specs.List.{AllByRecursion}
use Rattle.uc_model.specs.Meaning.{value_of}
use Rattle.uc_run.specs.BackCursors.{IsPreviousKey}
use Rattle.uc_run.specs.Cursors.{Standing, has_ranges}
use Rattle.uc_compact.specs.Inputs.{points_of, writes_of}
use Rattle.uc_query_read.specs.Back.{bound_of, passed_back, StandsBelow}
use Rattle.uc_query_read.specs.Walks.{Walk, runs_of, IsOfRun}
use Rattle.uc_query_read.proofs.Alone.{plain_moved}
use Rattle.uc_query_read.proofs.BackStanding.{Looks, stand_before, comes}
use Rattle.uc_query_read.proofs.Beside.{moved_of_runs}
use Rattle.uc_query_read.proofs.Standing.{come_back}
use Rattle.uc_query_read.proofs.back_walk.BackWalk.next_alone.Goals as goal

pub invariant_of-self-2 : goal.invariant_of-self-2
invariant_of-self-2 g c =
    let k = c.self.inside in
    let cursors = k.cursors.items in
    let high = bound_of (option_map (λ h. h.now) k.high) k.is_included in
    let key = c.in-Some.key.now in
    let lent = c.deref_mut.result.now in
    let same : lent ≡ cursors = c.deref_mut.ensures.value in
    let looks : Looks c.args.self.now cursors k.low.now high (Some key) = record {
      is = c.self.view_is;
      there = c.self.invariant.stand;
      greatest = λ bound stands.
          subst (λ (cs : List Standing). IsPreviousKey (points_of (runs_of cs)) bound (Some key)) same
          (c.in-Some.ensures.last bound (subst (AllByRecursion (StandsBelow bound)) (sym same) stands));
    } in
    let stand = subst (AllByRecursion (StandsBelow high)) (sym same) c.self.invariant.stand in
    let new = c.prev_lone.new.cursors in
    let long : length cursors ≡ k.cursors.len = search rules in
    let moved = take k.cursors.len (new ++ drop (length new) cursors) in
    let back : moved ≡ map (passed_back key) cursors = come_back (passed_back key) cursors lent new k.cursors.len long same (c.in-Some.ensures.passes high stand) in
    record {
      stand = stand_before c.args.self.now cursors k.low.now high (Some key) looks key refl moved back;
      of_runs = subst (AllByRecursion IsOfRun) (sym back) (moved_of_runs (passed_back key) (λ c is. is) cursors c.self.invariant.of_runs);
      plain = λ plain. subst (AllByRecursion (λ s. has_ranges s ≡ false)) (sym back) (plain_moved (passed_back key) (λ s. refl) cursors (c.self.invariant.plain plain));
    }

pub returns-clause-comes : goal.returns-clause-comes
returns-clause-comes g c =
    let k = c.self.inside in
    let cursors = k.cursors.items in
    let high = bound_of (option_map (λ h. h.now) k.high) k.is_included in
    let key = c.in-Some.key.now in
    let lent = c.deref_mut.result.now in
    let same : lent ≡ cursors = c.deref_mut.ensures.value in
    let looks : Looks c.args.self.now cursors k.low.now high (Some key) = record {
      is = c.self.view_is;
      there = c.self.invariant.stand;
      greatest = λ bound stands.
          subst (λ (cs : List Standing). IsPreviousKey (points_of (runs_of cs)) bound (Some key)) same
          (c.in-Some.ensures.last bound (subst (AllByRecursion (StandsBelow bound)) (sym same) stands));
    } in
    let stand = subst (AllByRecursion (StandsBelow high)) (sym same) c.self.invariant.stand in
    let new = c.prev_lone.new.cursors in
    let long : length cursors ≡ k.cursors.len = search rules in
    let moved = take k.cursors.len (new ++ drop (length new) cursors) in
    let back : moved ≡ map (passed_back key) cursors = come_back (passed_back key) cursors lent new k.cursors.len long same (c.in-Some.ensures.passes high stand) in
    comes c.args.self.now cursors k.low.now high (Some key) looks key refl moved back c.in-Some.ensures.from

pub returns-clause-value : goal.returns-clause-value
returns-clause-value g c =
    let k = c.self.inside in
    let high = bound_of (option_map (λ h. h.now) k.high) k.is_included in
    let key = c.in-Some.key.now in
    let same = c.deref_mut.ensures.value in
    let stand = subst (AllByRecursion (StandsBelow high)) (sym same) c.self.invariant.stand in
    sym (ap (λ (w : Walk). value_of g.O.Operator.meaning (writes_of w.runs) key c.args.at) c.self.view_is)
    ∙ sym (ap (λ (cs : List Standing). value_of g.O.Operator.meaning (writes_of (runs_of cs)) key c.args.at) same)
    ∙ c.in-Some.ensures.value high stand

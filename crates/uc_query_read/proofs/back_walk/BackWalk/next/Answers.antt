use Rattle.std.proofs.Common.{rules, ◌≡◌, ◌++◌, false, List, Some, length, map, take, drop, option_map, refl, sym, ap, ◌∙◌, subst}
use Rattle.std.specs.List.{AllByRecursion}
use Rattle.std.specs.Ordering.{is_lt}
use Rattle.uc_model.specs.Meaning.{value_of}
use Rattle.uc_run_entry.specs.Run.{Contents}
use Rattle.uc_run.specs.BackCursors.{IsPreviousKey}
use Rattle.uc_run.specs.Cursors.{Standing, has_ranges}
use Rattle.uc_compact.specs.Inputs.{points_of, writes_of}
use Rattle.uc_query_read.specs.Back.{bound_of, passed_back, StandsBelow}
use Rattle.uc_query_read.specs.Walks.{runs_of, IsOfRun}
use Rattle.uc_query_read.proofs.Alone.{plain_moved}
use Rattle.uc_query_read.proofs.BackStanding.{Looks, ends, too_far, stand_before, same_runs, comes}
use Rattle.uc_query_read.proofs.Beside.{moved_of_runs}
use Rattle.uc_query_read.proofs.Standing.{come_back}
use Rattle.uc_query_read.proofs.back_walk.BackWalk.next.Goals as goal

pub returns-in_default-clause-comes : goal.returns-in_default-clause-comes
returns-in_default-clause-comes g c =
    let k = c.self.inside in
    let cursors = k.cursors.items in
    let high = bound_of (option_map (λ h. h.now) k.high) k.is_included in
    let found = option_map (λ key. key.now) c.greatest_key.result in
    let looks : Looks c.args.self.now cursors k.low.now high found = record {
      is = c.self.view_is;
      there = c.self.invariant.stand;
      greatest = λ bound stands.
          subst (λ (cs : List Standing). IsPreviousKey (points_of (runs_of cs)) bound found) c.deref.ensures.value
          (c.greatest_key.ensures bound (subst (AllByRecursion (StandsBelow bound)) (sym c.deref.ensures.value) stands));
    } in
    let none = ends c.args.self.now cursors k.low.now high found looks (ap (option_map (λ key. key.now)) c.in_default.is) in
    (none, none)

pub returns-then-is_lt-clause-comes : goal.returns-then-is_lt-clause-comes
returns-then-is_lt-clause-comes g c =
    let k = c.self.inside in
    let cursors = k.cursors.items in
    let high = bound_of (option_map (λ h. h.now) k.high) k.is_included in
    let found = option_map (λ key. key.now) c.greatest_key.result in
    let looks : Looks c.args.self.now cursors k.low.now high found = record {
      is = c.self.view_is;
      there = c.self.invariant.stand;
      greatest = λ bound stands.
          subst (λ (cs : List Standing). IsPreviousKey (points_of (runs_of cs)) bound found) c.deref.ensures.value
          (c.greatest_key.ensures bound (subst (AllByRecursion (StandsBelow bound)) (sym c.deref.ensures.value) stands));
    } in
    let key = c.in-Some.key.now in
    let some : found ≡ Some key = ap (option_map (λ key. key.now)) c.in-Some.is in
    let none = too_far c.args.self.now cursors k.low.now high found looks key some (ap is_lt (sym c.text_order.ensures) ∙ sym c.is_lt.ensures ∙ c.if-is_lt.true) in
    (none, none)

pub value_of_each-requires : goal.value_of_each-requires
value_of_each-requires g c =
    let k = c.self.inside in
    let cursors = k.cursors.items in
    let high = bound_of (option_map (λ h. h.now) k.high) k.is_included in
    let found = option_map (λ key. key.now) c.greatest_key.result in
    let looks : Looks c.args.self.now cursors k.low.now high found = record {
      is = c.self.view_is;
      there = c.self.invariant.stand;
      greatest = λ bound stands.
          subst (λ (cs : List Standing). IsPreviousKey (points_of (runs_of cs)) bound found) c.deref.ensures.value
          (c.greatest_key.ensures bound (subst (AllByRecursion (StandsBelow bound)) (sym c.deref.ensures.value) stands));
    } in
    let key = c.in-Some.key.now in
    let some : found ≡ Some key = ap (option_map (λ key. key.now)) c.in-Some.is in
    let new = c.pass_each.new.cursors in
    let long : length cursors ≡ k.cursors.len = search rules in
    let moved = take k.cursors.len (new ++ drop (length new) cursors) in
    let back : moved ≡ map (passed_back key) cursors = come_back (passed_back key) cursors c.deref_mut.result.now new k.cursors.len long c.deref_mut.ensures.value c.pass_each.ensures in
    subst (AllByRecursion (StandsBelow (Some key))) (sym c.deref-2.ensures.value) (stand_before c.args.self.now cursors k.low.now high found looks key some moved back)

pub invariant_of-self : goal.invariant_of-self
invariant_of-self g c =
    let k = c.self.inside in
    let cursors = k.cursors.items in
    let high = bound_of (option_map (λ h. h.now) k.high) k.is_included in
    let found = option_map (λ key. key.now) c.greatest_key.result in
    let looks : Looks c.args.self.now cursors k.low.now high found = record {
      is = c.self.view_is;
      there = c.self.invariant.stand;
      greatest = λ bound stands.
          subst (λ (cs : List Standing). IsPreviousKey (points_of (runs_of cs)) bound found) c.deref.ensures.value
          (c.greatest_key.ensures bound (subst (AllByRecursion (StandsBelow bound)) (sym c.deref.ensures.value) stands));
    } in
    let key = c.in-Some.key.now in
    let some : found ≡ Some key = ap (option_map (λ key. key.now)) c.in-Some.is in
    let new = c.pass_each.new.cursors in
    let long : length cursors ≡ k.cursors.len = search rules in
    let moved = take k.cursors.len (new ++ drop (length new) cursors) in
    let back : moved ≡ map (passed_back key) cursors = come_back (passed_back key) cursors c.deref_mut.result.now new k.cursors.len long c.deref_mut.ensures.value c.pass_each.ensures in
    record {
      stand = stand_before c.args.self.now cursors k.low.now high found looks key some moved back;
      of_runs = subst (AllByRecursion IsOfRun) (sym back) (moved_of_runs (passed_back key) (λ c is. is) cursors c.self.invariant.of_runs);
      plain = λ plain. subst (AllByRecursion (λ s. has_ranges s ≡ false)) (sym back) (plain_moved (passed_back key) (λ s. refl) cursors (c.self.invariant.plain plain));
    }

pub returns-in_err-value-clause-runs : goal.returns-in_err-value-clause-runs
returns-in_err-value-clause-runs g c =
    let k = c.self.inside in
    let cursors = k.cursors.items in
    let high = bound_of (option_map (λ h. h.now) k.high) k.is_included in
    let found = option_map (λ key. key.now) c.greatest_key.result in
    let looks : Looks c.args.self.now cursors k.low.now high found = record {
      is = c.self.view_is;
      there = c.self.invariant.stand;
      greatest = λ bound stands.
          subst (λ (cs : List Standing). IsPreviousKey (points_of (runs_of cs)) bound found) c.deref.ensures.value
          (c.greatest_key.ensures bound (subst (AllByRecursion (StandsBelow bound)) (sym c.deref.ensures.value) stands));
    } in
    let key = c.in-Some.key.now in
    let some : found ≡ Some key = ap (option_map (λ key. key.now)) c.in-Some.is in
    let new = c.pass_each.new.cursors in
    let long : length cursors ≡ k.cursors.len = search rules in
    let moved = take k.cursors.len (new ++ drop (length new) cursors) in
    let back : moved ≡ map (passed_back key) cursors = come_back (passed_back key) cursors c.deref_mut.result.now new k.cursors.len long c.deref_mut.ensures.value c.pass_each.ensures in
    same_runs c.args.self.now cursors k.low.now high found looks key some moved back

pub invariant_of-self-2 : goal.invariant_of-self-2
invariant_of-self-2 g c =
    let k = c.self.inside in
    let cursors = k.cursors.items in
    let high = bound_of (option_map (λ h. h.now) k.high) k.is_included in
    let found = option_map (λ key. key.now) c.greatest_key.result in
    let looks : Looks c.args.self.now cursors k.low.now high found = record {
      is = c.self.view_is;
      there = c.self.invariant.stand;
      greatest = λ bound stands.
          subst (λ (cs : List Standing). IsPreviousKey (points_of (runs_of cs)) bound found) c.deref.ensures.value
          (c.greatest_key.ensures bound (subst (AllByRecursion (StandsBelow bound)) (sym c.deref.ensures.value) stands));
    } in
    let key = c.in-Some.key.now in
    let some : found ≡ Some key = ap (option_map (λ key. key.now)) c.in-Some.is in
    let new = c.pass_each.new.cursors in
    let long : length cursors ≡ k.cursors.len = search rules in
    let moved = take k.cursors.len (new ++ drop (length new) cursors) in
    let back : moved ≡ map (passed_back key) cursors = come_back (passed_back key) cursors c.deref_mut.result.now new k.cursors.len long c.deref_mut.ensures.value c.pass_each.ensures in
    record {
      stand = stand_before c.args.self.now cursors k.low.now high found looks key some moved back;
      of_runs = subst (AllByRecursion IsOfRun) (sym back) (moved_of_runs (passed_back key) (λ c is. is) cursors c.self.invariant.of_runs);
      plain = λ plain. subst (AllByRecursion (λ s. has_ranges s ≡ false)) (sym back) (plain_moved (passed_back key) (λ s. refl) cursors (c.self.invariant.plain plain));
    }

pub returns-clause-comes : goal.returns-clause-comes
returns-clause-comes g c =
    let k = c.self.inside in
    let cursors = k.cursors.items in
    let high = bound_of (option_map (λ h. h.now) k.high) k.is_included in
    let found = option_map (λ key. key.now) c.greatest_key.result in
    let looks : Looks c.args.self.now cursors k.low.now high found = record {
      is = c.self.view_is;
      there = c.self.invariant.stand;
      greatest = λ bound stands.
          subst (λ (cs : List Standing). IsPreviousKey (points_of (runs_of cs)) bound found) c.deref.ensures.value
          (c.greatest_key.ensures bound (subst (AllByRecursion (StandsBelow bound)) (sym c.deref.ensures.value) stands));
    } in
    let key = c.in-Some.key.now in
    let some : found ≡ Some key = ap (option_map (λ key. key.now)) c.in-Some.is in
    let new = c.pass_each.new.cursors in
    let long : length cursors ≡ k.cursors.len = search rules in
    let moved = take k.cursors.len (new ++ drop (length new) cursors) in
    let back : moved ≡ map (passed_back key) cursors = come_back (passed_back key) cursors c.deref_mut.result.now new k.cursors.len long c.deref_mut.ensures.value c.pass_each.ensures in
    comes c.args.self.now cursors k.low.now high found looks key some moved back (ap is_lt (sym c.text_order.ensures) ∙ sym c.is_lt.ensures ∙ c.if-is_lt.false)

pub returns-clause-value : goal.returns-clause-value
returns-clause-value g c =
    let k = c.self.inside in
    let cursors = k.cursors.items in
    let high = bound_of (option_map (λ h. h.now) k.high) k.is_included in
    let found = option_map (λ key. key.now) c.greatest_key.result in
    let looks : Looks c.args.self.now cursors k.low.now high found = record {
      is = c.self.view_is;
      there = c.self.invariant.stand;
      greatest = λ bound stands.
          subst (λ (cs : List Standing). IsPreviousKey (points_of (runs_of cs)) bound found) c.deref.ensures.value
          (c.greatest_key.ensures bound (subst (AllByRecursion (StandsBelow bound)) (sym c.deref.ensures.value) stands));
    } in
    let key = c.in-Some.key.now in
    let some : found ≡ Some key = ap (option_map (λ key. key.now)) c.in-Some.is in
    let new = c.pass_each.new.cursors in
    let long : length cursors ≡ k.cursors.len = search rules in
    let moved = take k.cursors.len (new ++ drop (length new) cursors) in
    let back : moved ≡ map (passed_back key) cursors = come_back (passed_back key) cursors c.deref_mut.result.now new k.cursors.len long c.deref_mut.ensures.value c.pass_each.ensures in
    c.in_ok-value.ensures
    ∙ ap (λ (runs : List Contents). value_of g.O.Operator.meaning (writes_of runs) key c.args.at) (ap runs_of c.deref-2.ensures.value ∙ same_runs c.args.self.now cursors k.low.now high found looks key some moved back)

pub returns-clause-runs : goal.returns-clause-runs
returns-clause-runs g c =
    let k = c.self.inside in
    let cursors = k.cursors.items in
    let high = bound_of (option_map (λ h. h.now) k.high) k.is_included in
    let found = option_map (λ key. key.now) c.greatest_key.result in
    let looks : Looks c.args.self.now cursors k.low.now high found = record {
      is = c.self.view_is;
      there = c.self.invariant.stand;
      greatest = λ bound stands.
          subst (λ (cs : List Standing). IsPreviousKey (points_of (runs_of cs)) bound found) c.deref.ensures.value
          (c.greatest_key.ensures bound (subst (AllByRecursion (StandsBelow bound)) (sym c.deref.ensures.value) stands));
    } in
    let key = c.in-Some.key.now in
    let some : found ≡ Some key = ap (option_map (λ key. key.now)) c.in-Some.is in
    let new = c.pass_each.new.cursors in
    let long : length cursors ≡ k.cursors.len = search rules in
    let moved = take k.cursors.len (new ++ drop (length new) cursors) in
    let back : moved ≡ map (passed_back key) cursors = come_back (passed_back key) cursors c.deref_mut.result.now new k.cursors.len long c.deref_mut.ensures.value c.pass_each.ensures in
    same_runs c.args.self.now cursors k.low.now high found looks key some moved back

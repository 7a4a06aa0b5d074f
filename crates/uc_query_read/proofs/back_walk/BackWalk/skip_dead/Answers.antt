use Rattle.std.proofs.Common.{rules, ◌≡◌, ◌++◌, ℕ, Bool, false, List, Option, Some, length, map, take, drop, option_map, if◌then◌else◌, refl, sym, ap, ◌∙◌, subst}
use Rattle.std.specs.List.{AllByRecursion}
use Rattle.uc_compact.specs.Inputs.{writes_of}
use Rattle.uc_run.specs.Cursors.{Standing, has_ranges}
use Rattle.uc_query_read.specs.Back.{back_walk_at, bound_at, bound_of, passed_back, StandsBelow}
use Rattle.uc_query_read.specs.Dead.{AreDeadBelow}
use Rattle.uc_query_read.specs.Walks.{runs_of, IsOfRun}
use Rattle.uc_query_read.proofs.Alone.{plain_moved}
use Rattle.uc_query_read.proofs.BackStanding.{not_included}
use Rattle.uc_query_read.proofs.Beside.{moved_of_runs}
use Rattle.uc_query_read.proofs.SkippingBack.{skips, stand_at}
use Rattle.uc_query_read.proofs.Standing.{come_back}
use Rattle.uc_query_read.proofs.back_walk.BackWalk.skip_dead.Goals as goal

pub invariant_of-self-2 : goal.invariant_of-self-2
invariant_of-self-2 g c =
    let k = c.self.inside in
    let cursors = k.cursors.items in
    let key = c.in-Some.key.now in
    let high = option_map (λ h. h.now) k.high in
    let is_key : bound_of high k.is_included ≡ Some key = ap (bound_of high) c.if-self.false ∙ not_included high ∙ ap (option_map (λ h. h.now)) c.in-Some.is in
    let there = subst (λ (h : Option (List ℕ)). AllByRecursion (StandsBelow h) cursors) is_key c.self.invariant.stand in
    let is = subst (λ (h : Option (List ℕ)). back_walk_at k.low.now h (runs_of cursors) ≡ c.args.self.now) is_key c.self.view_is in
    let bound = bound_at c.in-Some-dead_from.bound.now c.in-Some-dead_from.is_included in
    let dead = subst (λ (cs : List Standing). AreDeadBelow g.O.Operator.meaning (writes_of (runs_of cs)) c.args.at key bound) c.deref.ensures.value c.in-Some-dead_from.ensures in
    let new = c.pass_all.new.cursors in
    let old = c.deref_mut.result.now in
    let made = subst (λ (b : Bool). new ≡ (if b then map (passed_back bound) old else old)) c.if-not-pass_all.false c.pass_all.ensures in
    let long : length cursors ≡ k.cursors.len = search rules in
    let moved = take k.cursors.len (new ++ drop (length new) cursors) in
    let goes : moved ≡ map (passed_back bound) cursors = come_back (passed_back bound) cursors old new k.cursors.len long c.deref_mut.ensures.value made in
    record {
      stand = stand_at g.O.Operator.meaning c.args.at c.args.self.now cursors k.low.now key bound is there dead moved goes;
      of_runs = subst (AllByRecursion IsOfRun) (sym goes) (moved_of_runs (passed_back bound) (λ c is. is) cursors c.self.invariant.of_runs);
      plain = λ plain. subst (AllByRecursion (λ s. has_ranges s ≡ false)) (sym goes) (plain_moved (passed_back bound) (λ s. refl) cursors (c.self.invariant.plain plain));
    }

pub returns : goal.returns
returns g c =
    let k = c.self.inside in
    let cursors = k.cursors.items in
    let key = c.in-Some.key.now in
    let high = option_map (λ h. h.now) k.high in
    let is_key : bound_of high k.is_included ≡ Some key = ap (bound_of high) c.if-self.false ∙ not_included high ∙ ap (option_map (λ h. h.now)) c.in-Some.is in
    let there = subst (λ (h : Option (List ℕ)). AllByRecursion (StandsBelow h) cursors) is_key c.self.invariant.stand in
    let is = subst (λ (h : Option (List ℕ)). back_walk_at k.low.now h (runs_of cursors) ≡ c.args.self.now) is_key c.self.view_is in
    let bound = bound_at c.in-Some-dead_from.bound.now c.in-Some-dead_from.is_included in
    let dead = subst (λ (cs : List Standing). AreDeadBelow g.O.Operator.meaning (writes_of (runs_of cs)) c.args.at key bound) c.deref.ensures.value c.in-Some-dead_from.ensures in
    let new = c.pass_all.new.cursors in
    let old = c.deref_mut.result.now in
    let made = subst (λ (b : Bool). new ≡ (if b then map (passed_back bound) old else old)) c.if-not-pass_all.false c.pass_all.ensures in
    let long : length cursors ≡ k.cursors.len = search rules in
    let moved = take k.cursors.len (new ++ drop (length new) cursors) in
    let goes : moved ≡ map (passed_back bound) cursors = come_back (passed_back bound) cursors old new k.cursors.len long c.deref_mut.ensures.value made in
    skips g.O.Operator.meaning c.args.at c.args.self.now cursors k.low.now key bound is there dead moved goes

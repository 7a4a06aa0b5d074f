use Rattle.std.proofs.Common.{rules, ◌≡◌, ◌<◌, ◌≤◌, ◌-◌, List, [], ◌++◌, leb, length, take, drop, arith, filter, Some, None, sym, ap, ◌∙◌, subst}
use Rattle.std.specs.Prelude.{Option}
use Rattle.std.specs.List.{AllByRecursion, cons_option, slice_get}
use Rattle.std.specs.Option.{option_to_list}
use Rattle.uc_run_entry.specs.declared.entry.Entry.{Entry}
use Rattle.uc_compact.specs.Stripes.{is_in, is_bottom, stripe_of}
use Rattle.uc_compact.specs.Choice.{PointsFall, point_for, points_for}
use Rattle.uc_compact.proofs.NestedLists.{all-filter}
use Rattle.uc_compact.proofs.NumbersFall.{points_filter, falling_filter}
use Rattle.uc_compact.proofs.Newest.{newest_alone}
use Rattle.uc_compact.proofs.Onward.{point_step, left_is, left_fewer, same_point, pushed, none_left, nothing_left, append-none, begins_still}
use Rattle.uc_compact.proofs.kept_points.push_each_stripe.Goals as goal

pub push_point_for-requires-clause-fall : goal.push_point_for-requires-clause-fall
push_point_for-requires-clause-fall g c = subst PointsFall (sym c.own_points-count.ensures.own) (points_filter (λ p. is_in c.stripe_of-stripe.result p.seq) c.loop-newest.rest.now c.loop-newest.invariant.fall)

pub push_point_for-requires-clause-from_one : goal.push_point_for-requires-clause-from_one
push_point_for-requires-clause-from_one g c = subst (AllByRecursion (λ (p : Entry). 0 < p.seq)) (sym c.own_points-count.ensures.own) (all-filter (λ (p : Entry). 0 < p.seq) (λ p. is_in c.stripe_of-stripe.result p.seq) c.loop-newest.rest.now c.loop-newest.invariant.from_one)

pub offset_bounds-rest-count : goal.offset_bounds-rest-count
offset_bounds-rest-count g c =
    let bound : c.own_points-count.result.1 ≤ length c.loop-newest.rest.now = c.own_points-count.ensures.bound in
    let within : length c.loop-newest.rest.now ≤ length c.args.points.now = c.loop-newest.invariant.within in
    let le : c.own_points-count.result.1 ≤ length c.args.points.now = omega (arith, bound, within) in
    search rules

pub loop-newest-smaller : goal.loop-newest-smaller
loop-newest-smaller g c =
    let first : slice_get c.loop-newest.rest.now 0 ≡ Some c.in-Some.newest.now = search rules in
    let stripe = c.stripe_of-stripe.ensures ∙ ap (stripe_of c.args.keeping.now.keeps) c.seq.ensures.value in
    left_fewer c.loop-newest.rest.now c.own_points-count.result.1 c.args.keeping.now.keeps c.in-Some.newest.now first c.loop-newest.invariant.from_one c.stripe_of-stripe.result stripe c.own_points-count.ensures.below

pub loop-newest-preserved : goal.loop-newest-preserved
loop-newest-preserved g c =
    let m = g.O.Operator.meaning in
    let k = c.args.keeping.now in
    let key = c.args.key.now in
    let seqs = c.args.seqs.now in
    let s = c.stripe_of-stripe.result in
    let rest = c.loop-newest.rest.now in
    let count = c.own_points-count.result.1 in
    let ps = rest in
    let more = filter (λ q. leb q.seq s.above) ps in
    let first : slice_get rest 0 ≡ Some c.in-Some.newest.now = search rules in
    let left = left_is rest count more c.own_points-count.ensures.below in
    let fewer : length (take (length rest - count) (drop count rest)) < length rest = loop-newest-smaller g c in
    let within : length rest ≤ length c.args.points.now = c.loop-newest.invariant.within in
    let stripe = c.stripe_of-stripe.ensures ∙ ap (stripe_of k.keeps) c.seq.ensures.value in
    let step = point_step m key k seqs c.requires.keeps_rise ps c.in-Some.newest.now first c.loop-newest.invariant.fall s stripe in
    let point = point_for m (is_bottom k s) key (filter (λ p. is_in s p.seq) ps) (filter (is_in s) seqs) in
    let same = same_point m key c.is_bottom-bottom.ensures c.own_points-count.ensures.own (ap option_to_list c.newest_of-range.ensures)
    ∙ newest_alone m (is_bottom k s) key (filter (λ p. is_in s p.seq) ps) (filter (is_in s) seqs) (falling_filter (is_in s) seqs c.requires.of_one_key.seqs_fall) in
    let grown : c.push_point_for.new.kept ≡ c.loop-newest.kept ++ cons_option point [] = c.in_ok-push_point_for.ensures.pushed ∙ ap (λ (o : Option Entry). c.loop-newest.kept ++ cons_option o []) same in
    record {
      fall = subst PointsFall (sym left) (points_filter (λ q. leb q.seq s.above) ps c.loop-newest.invariant.fall);
      from_one = subst (AllByRecursion (λ (p : Entry). 0 < p.seq)) (sym left) (all-filter (λ (p : Entry). 0 < p.seq) (λ q. leb q.seq s.above) ps c.loop-newest.invariant.from_one);
      within = omega (arith, fewer, within);
      begins = begins_still c.args.kept.now c.loop-newest.kept (cons_option point []) c.push_point_for.new.kept c.loop-newest.invariant.begins grown;
      so_far =
          ap (λ (es : List Entry). es ++ points_for m k key (take (length rest - count) (drop count rest)) seqs) grown
          ∙ ap (λ (qs : List Entry). (c.loop-newest.kept ++ cons_option point []) ++ points_for m k key qs seqs) left
          ∙ pushed c.loop-newest.kept (points_for m k key ps seqs) (points_for m k key more seqs) _ point step c.loop-newest.invariant.so_far;
    }

pub returns-clause-pushed : goal.returns-clause-pushed
returns-clause-pushed g c =
    let m = g.O.Operator.meaning in
    let gone : slice_get c.loop-newest.rest.now 0 ≡ None = search rules in
    append-none c.loop-newest.kept (points_for m c.args.keeping.now c.args.key.now c.loop-newest.rest.now c.args.seqs.now) _ (ap (λ rest. points_for m c.args.keeping.now c.args.key.now rest c.args.seqs.now) (none_left c.loop-newest.rest.now gone) ∙ nothing_left m c.args.key.now c.args.keeping.now c.args.seqs.now) c.loop-newest.invariant.so_far

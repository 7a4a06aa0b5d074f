use Rattle.std.proofs.Common.{◌≡◌, ◌≤◌, ◌+◌, ◌-◌, length, take, drop, ap, ◌∙◌, arith}
use Rattle.std.specs.Ordering.{is_lt}
use Rattle.std.proofs.lemmas.List.{length-drop, take_rest}
use Rattle.uc_run.specs.Ranks.{high_in, rank_cmp}
use Rattle.uc_run.proofs.RankOrder.{below_by_first, first_rise}
use Rattle.uc_run.proofs.Ties.{none_yet, all_sorted, upto_next}
use Rattle.uc_run.proofs.ranks.sort_ties.Goals as goal

pub overflow_add-end : goal.overflow_add-end
overflow_add-end c =
    let start = c.loop-start.start in
    let xs = c.loop-start.ranks in
    let rest : length (take (length xs - start) (drop start xs)) ≡ length xs - start = ap length (take_rest xs start) ∙ length-drop start xs in
    let within : start ≤ length xs = c.loop-start.invariant.within in
    let long : length xs ≡ length c.args.ranks.now = c.loop-start.invariant.long in
    omega (arith, rest, within, long, c.tied.ensures.within)

pub loop-start-init : goal.loop-start-init
loop-start-init c =
    let ranked = c.args.ranked.now in
    none_yet (λ r s. is_lt (rank_cmp ranked.slots c.args.shared ranked.bits r s)) (high_in ranked.bits) (below_by_first ranked.slots c.args.shared ranked.bits) c.args.ranks.now

pub loop-start-preserved : goal.loop-start-preserved
loop-start-preserved c =
    let ranked = c.args.ranked.now in
    let start = c.loop-start.start in
    let xs = c.loop-start.ranks in
    let n = c.tied.result in
    let rest : length (take (length xs - start) (drop start xs)) ≡ length xs - start = ap length (take_rest xs start) ∙ length-drop start xs in
    let within : start ≤ length xs = c.loop-start.invariant.within in
    upto_next (λ r s. is_lt (rank_cmp ranked.slots c.args.shared ranked.bits r s)) (high_in ranked.bits) (below_by_first ranked.slots c.args.shared ranked.bits)
    c.args.ranks.now xs c.sort_tied.new.ranks (take (length xs - start) (drop start xs)) start n (start + n - start) (omega arith) (take_rest xs start)
    (λ i j le l. first_rise ranked.bits _ _ (c.requires i j 0 le l))
    c.loop-start.invariant c.tied.ensures.some (omega (arith, within, rest, c.tied.ensures.within)) c.tied.ensures.same c.tied.ensures.next c.sort_tied.ensures.permutation c.sort_tied.ensures.sorted

pub returns : goal.returns
returns c = record {
  permutation = c.loop-start.invariant.moved;
  sorted = all_sorted (λ r s. is_lt (rank_cmp c.args.ranked.now.slots c.args.shared c.args.ranked.now.bits r s)) (high_in c.args.ranked.now.bits) (below_by_first c.args.ranked.now.slots c.args.shared c.args.ranked.now.bits) c.args.ranks.now c.loop-start.ranks c.loop-start.start c.loop-start-test.false c.loop-start.invariant;
}

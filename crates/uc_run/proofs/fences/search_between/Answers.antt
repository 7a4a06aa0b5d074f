use Rattle.std.proofs.Common.{◌+◌, ◌-◌, ◌/◌, ◌<◌, sym, ap, ◌∙◌, arith}
use Rattle.uc_run_entry.specs.Order.{entry_cmp}
use Rattle.uc_run_entry.specs.Seek.{is_passed}
use Rattle.uc_run_entry.proofs.Partitions.{partitioned}
use Rattle.uc_run.proofs.Fenced.{passed_to, ahead_from}
use Rattle.uc_run.proofs.Order.{passed_before}
use Rattle.uc_run.proofs.fences.search_between.Goals as goal

pub loop-passed-preserved-then-is_passed : goal.loop-passed-preserved-then-is_passed
loop-passed-preserved-then-is_passed c =
    let i = c.loop-passed.invariant in
    let lt : c.loop-passed.passed < c.loop-passed.ahead = c.loop-passed-test.true in
    let middle = c.loop-passed.passed + (c.loop-passed.ahead - c.loop-passed.passed) / 2 in
    let test = is_passed c.args.low.now c.args.strict in
    let parted = partitioned (λ p. test p.key) entry_cmp (passed_before c.args.low.now c.args.strict) c.args.points.now c.requires.sorted in
    record {
      order = omega (arith, lt);
      bound = i.bound;
      before = passed_to test c.args.points.now parted middle (omega (arith, lt, i.bound)) (λ e. ap test (sym (c.fence_at.ensures e)) ∙ sym c.is_passed.ensures ∙ c.if-is_passed.true);
      after = i.after;
    }

pub loop-passed-preserved : goal.loop-passed-preserved
loop-passed-preserved c =
    let i = c.loop-passed.invariant in
    let lt : c.loop-passed.passed < c.loop-passed.ahead = c.loop-passed-test.true in
    let middle = c.loop-passed.passed + (c.loop-passed.ahead - c.loop-passed.passed) / 2 in
    let test = is_passed c.args.low.now c.args.strict in
    let parted = partitioned (λ p. test p.key) entry_cmp (passed_before c.args.low.now c.args.strict) c.args.points.now c.requires.sorted in
    record {
      order = omega (arith, lt);
      bound = omega (arith, lt, i.bound);
      before = i.before;
      after = ahead_from test c.args.points.now parted middle (λ e. ap test (sym (c.fence_at.ensures e)) ∙ sym c.is_passed.ensures ∙ c.if-is_passed.false);
    }

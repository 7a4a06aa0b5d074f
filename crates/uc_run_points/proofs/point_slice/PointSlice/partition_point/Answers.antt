use Rattle.std.proofs.Common.{◌+◌, ◌-◌, ◌/◌, ◌<◌, sym, ◌∙◌, arith}
use Rattle.uc_run_points.proofs.Searched.{front_passes, back_fails}
use Rattle.uc_run_points.proofs.point_slice.PointSlice.partition_point.Goals as goal

pub loop-passed-preserved-then-passes : goal.loop-passed-preserved-then-passes
loop-passed-preserved-then-passes g c =
    let i = c.loop-passed.invariant in
    let lt : c.loop-passed.passed < c.loop-passed.end = c.loop-passed-test.true in
    let middle = c.loop-passed.passed + (c.loop-passed.end - c.loop-passed.passed) / 2 in
    record {
      order = omega (arith, lt);
      within = i.within;
      before = front_passes (g.T.PointTest.passing c.args.test.now) c.args.self.now c.requires middle c.at-point.result c.at-point.ensures (sym c.passes.ensures ∙ c.if-passes.true);
      behind = i.behind;
    }

pub loop-passed-preserved : goal.loop-passed-preserved
loop-passed-preserved g c =
    let i = c.loop-passed.invariant in
    let lt : c.loop-passed.passed < c.loop-passed.end = c.loop-passed-test.true in
    let middle = c.loop-passed.passed + (c.loop-passed.end - c.loop-passed.passed) / 2 in
    record {
      order = omega (arith, lt);
      within = omega (arith, lt, i.within);
      before = i.before;
      behind = back_fails (g.T.PointTest.passing c.args.test.now) c.args.self.now c.requires middle c.at-point.result c.at-point.ensures (sym c.passes.ensures ∙ c.if-passes.false);
    }

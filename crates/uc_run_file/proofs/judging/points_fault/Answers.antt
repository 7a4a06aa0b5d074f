use Rattle.std.proofs.Common.{sym}
use Rattle.uc_run_file.proofs.PointsJudged.{one_judged}
use Rattle.uc_run_file.proofs.judging.points_fault.Goals as goal

pub loop-number-preserved : goal.loop-number-preserved
loop-number-preserved c =
    one_judged c.args.low c.args.high c.args.fragments.now c.args.points.now c.loop-number.before c.loop-number.ahead c.next.new.self c.loop-number.number c.in-Some.point
    c.loop-number.invariant (sym c.in-Some.ensures.next) c.next.ensures.rest c.in-None-point_fault.ensures.judged

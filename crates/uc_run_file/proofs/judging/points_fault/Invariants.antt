use Rattle.uc_run_file.proofs.PointsJudged.{AreJudged}
use Rattle.uc_run_file.proofs.judging.points_fault.Given as goal

abbrev pub invariant-loop-number : goal.invariant-loop-number
invariant-loop-number l = AreJudged l.low l.high l.fragments l.points l.before l.ahead l.number

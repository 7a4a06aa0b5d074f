use Rattle.std.proofs.Common.{length}
use Rattle.uc_run.proofs.Alike.{AreAlike}
use Rattle.uc_run.proofs.same.are_alike.Given as goal

abbrev pub invariant-loop-point : goal.invariant-loop-point
invariant-loop-point l = AreAlike l.fn.ahead l.fn.other l.ahead l.other

abbrev pub decreases-loop-point : goal.decreases-loop-point
decreases-loop-point l = length l.ahead

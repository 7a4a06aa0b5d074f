use Rattle.std.proofs.Common.{length}
use Rattle.uc_run_points.proofs.Judged.{IsRead}
use Rattle.uc_run_points.proofs.judging.count_spelled.Given as goal

abbrev pub invariant-loop-rest : goal.invariant-loop-rest
invariant-loop-rest l = IsRead l.bytes l.rest l.count l.starts.items

abbrev pub decreases-loop-rest : goal.decreases-loop-rest
decreases-loop-rest l = length l.rest

use Rattle.std.proofs.Common.{◌<◌, length}
use Rattle.uc_run.proofs.filter.count_keys_from.Given as goal

abbrev pub invariant-loop-point : goal.invariant-loop-point
invariant-loop-point l = 0 < l.count

abbrev pub decreases-loop-point : goal.decreases-loop-point
decreases-loop-point l = length l.ahead

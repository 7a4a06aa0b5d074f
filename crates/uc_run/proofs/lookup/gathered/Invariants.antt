use Rattle.std.proofs.Common.{◌≡◌, length}
use Rattle.uc_run.proofs.Walking.{passed, IsAhead}
use Rattle.uc_run.proofs.lookup.gathered.Given as goal

abbrev pub invariant-loop-point : goal.invariant-loop-point
invariant-loop-point l = record {
  ahead : IsAhead l.points l.ahead;
  kept : l.refs.items ≡ passed l.points l.ahead;
}

abbrev pub decreases-loop-point : goal.decreases-loop-point
decreases-loop-point l = length l.ahead

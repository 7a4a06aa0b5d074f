use Rattle.std.proofs.Common.{◌≡◌, ◌-◌, ◌^◌, min, length}
use Rattle.std.specs.List.{sum_by}
use Rattle.uc_run_entry.specs.Size as size
use Rattle.uc_run.proofs.Walking.{passed, IsAhead}
use Rattle.uc_run.proofs.run_size.points_size.Given as goal

abbrev pub invariant-loop-point : goal.invariant-loop-point
invariant-loop-point l = record {
  ahead : IsAhead l.points l.ahead;
  counted : l.sum ≡ min (sum_by size.entry_size (passed l.points l.ahead)) (2 ^ 64 - 1);
}

abbrev pub decreases-loop-point : goal.decreases-loop-point
decreases-loop-point l = length l.ahead

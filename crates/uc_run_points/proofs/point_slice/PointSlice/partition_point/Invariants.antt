use Rattle.std.proofs.Common.{◌≡◌, ◌-◌, ◌≤◌, true, false, length}
use Rattle.std.specs.List.{AllWithin}
use Rattle.uc_run_points.proofs.point_slice.PointSlice.partition_point.Given as goal

-- where the search is still to look
abbrev pub invariant-loop-passed : goal.invariant-loop-passed
invariant-loop-passed g l = record {
  order : l.passed ≤ l.end;
  within : l.end ≤ length l.self;
  before : AllWithin (λ p. g.T.PointTest.passing l.test p ≡ true) l.self 0 l.passed;
  behind : AllWithin (λ p. g.T.PointTest.passing l.test p ≡ false) l.self l.end (length l.self);
}

abbrev pub decreases-loop-passed : goal.decreases-loop-passed
decreases-loop-passed g l = l.end - l.passed

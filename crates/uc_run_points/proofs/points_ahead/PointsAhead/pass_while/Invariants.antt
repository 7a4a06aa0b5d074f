use Rattle.std.proofs.Common.{◌≡◌, true, drop}
use Rattle.std.specs.List.{AllWithin}
use Rattle.uc_run_points.proofs.points_ahead.PointsAhead.pass_while.Given as goal

abbrev pub invariant-loop-count : goal.invariant-loop-count
invariant-loop-count g l = record {
  ahead : l.self ≡ drop l.count l.fn.self;
  before : AllWithin (λ p. g.T.PointTest.passing l.test p ≡ true) l.fn.self 0 l.count;
}

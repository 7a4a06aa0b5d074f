use Rattle.std.proofs.Common.{◌≡◌, drop}
use Rattle.uc_run_points.proofs.points_ahead.PointsAhead.pass.Given as goal

abbrev pub invariant-loop : goal.invariant-loop
invariant-loop l = l.self ≡ drop l.counter l.fn.self

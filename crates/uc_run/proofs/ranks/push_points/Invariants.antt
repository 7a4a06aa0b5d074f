use Rattle.std.proofs.Common.{◌≡◌, ◌++◌, take}
use Rattle.uc_run.proofs.ranks.push_points.Given as goal

abbrev pub invariant-loop-point : goal.invariant-loop-point
invariant-loop-point l = l.packed ≡ l.fn.packed ++ take l.point-index l.points

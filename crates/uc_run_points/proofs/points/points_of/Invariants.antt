use Rattle.std.proofs.Common.{◌≡◌, take}
use Rattle.uc_run_points.proofs.points.points_of.Given as goal

abbrev pub invariant-loop-entry : goal.invariant-loop-entry
invariant-loop-entry l = l.points ≡ take l.entry-index l.entries

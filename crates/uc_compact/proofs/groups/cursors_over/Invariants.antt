use Rattle.std.proofs.Common.{◌≡◌, take}
use Rattle.uc_compact.proofs.groups.cursors_over.Given as goal

abbrev pub invariant-loop-points : goal.invariant-loop-points
invariant-loop-points l = l.cursors.items ≡ take l.points-index l.runs

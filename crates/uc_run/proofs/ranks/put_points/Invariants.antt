use Rattle.std.proofs.Common.{◌≡◌, take}
use Rattle.uc_run.specs.Ranks.{points_of}
use Rattle.uc_run.proofs.ranks.put_points.Given as goal

abbrev pub invariant-loop-rank : goal.invariant-loop-rank
invariant-loop-rank l = l.points.items ≡ points_of l.ranked.slots l.ranked.bits (take l.rank-index l.ranks)

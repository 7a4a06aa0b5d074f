use Rattle.std.proofs.Common.{◌≡◌, ◌++◌, map, take, drop}
use Rattle.uc_run.specs.Ranks.{ranked_at}
use Rattle.uc_run.proofs.ranks.rank_each.Given as goal

abbrev pub invariant-loop-rank : goal.invariant-loop-rank
invariant-loop-rank l = l.ranks ≡ map (ranked_at l.ranked.slots l.shared l.ranked.bits) (take l.rank-index l.fn.ranks) ++ drop l.rank-index l.fn.ranks

use Rattle.std.proofs.Common.{◌-◌, length}
use Rattle.std.specs.Ordering.{is_lt}
use Rattle.uc_run.specs.Ranks.{high_in, rank_cmp}
use Rattle.uc_run.proofs.RankOrder.{below_by_first}
use Rattle.uc_run.proofs.Ties.{Upto}
use Rattle.uc_run.proofs.ranks.sort_ties.Given as goal

abbrev pub invariant-loop-start : goal.invariant-loop-start
invariant-loop-start l = Upto (λ r s. is_lt (rank_cmp l.ranked.slots l.shared l.ranked.bits r s)) (high_in l.ranked.bits) (below_by_first l.ranked.slots l.shared l.ranked.bits) l.fn.ranks l.ranks l.start

abbrev pub decreases-loop-start : goal.decreases-loop-start
decreases-loop-start l = length l.fn.ranks - l.start

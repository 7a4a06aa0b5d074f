use Rattle.std.proofs.Common.{◌≤◌, length, take}
use Rattle.uc_run.specs.Ranks.{HaveBytes, HaveFront, points_of}
use Rattle.uc_run.proofs.ranks.shared_with.Given as goal

abbrev pub invariant-loop-rank : goal.invariant-loop-rank
invariant-loop-rank l =
    (l.shared ≤ length l.first)
    × HaveFront l.shared l.first (take l.rank-index (points_of l.ranked.slots l.ranked.bits l.ranks))
    × HaveBytes (take l.rank-index (points_of l.ranked.slots l.ranked.bits l.ranks))

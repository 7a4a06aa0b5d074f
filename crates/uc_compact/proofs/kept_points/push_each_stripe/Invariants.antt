use Rattle.std.proofs.Common.{◌≡◌, ◌<◌, ◌≤◌, ◌++◌, length}
use Rattle.std.specs.List.{AllByRecursion}
use Rattle.uc_compact.specs.Choice.{PointsFall, points_for}
use mathlib.Core.List.{IsPrefix}
use Rattle.uc_compact.proofs.kept_points.push_each_stripe.Given as goal

abbrev pub invariant-loop-newest : goal.invariant-loop-newest
invariant-loop-newest g l = record {
  fall : PointsFall l.rest;
  from_one : AllByRecursion (λ p. 0 < p.seq) l.rest;
  within : length l.rest ≤ length l.points;
  begins : IsPrefix l.fn.kept l.kept;
  so_far : l.kept ++ points_for g.O.Operator.meaning l.fn.keeping l.fn.key l.rest l.fn.seqs ≡ l.fn.kept ++ points_for g.O.Operator.meaning l.fn.keeping l.fn.key l.fn.points l.fn.seqs;
}

abbrev pub decreases-loop-newest : goal.decreases-loop-newest
decreases-loop-newest g l = length l.rest

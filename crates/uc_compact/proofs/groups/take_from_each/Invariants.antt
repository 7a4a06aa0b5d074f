use Rattle.std.proofs.Common.{◌≡◌, ◌-◌, ◌≤◌, length, map}
use Rattle.uc_compact.specs.Heads.{first_key}
use Rattle.uc_compact.proofs.NextKeys.{IsTakenTo}
use Rattle.uc_compact.proofs.groups.take_from_each.Given as goal

pub record Taken (l : goal.Live-loop-place) : Type 0 where
  pub within : l.place ≤ length l.fn.cursors
  pub taken : IsTakenTo l.keeps l.head.key.now l.fn.cursors l.cursors l.fn.points.items l.points.items l.place
  pub heads : l.heads.keys ≡ map first_key l.cursors
  pub front : l.heads.front ≡ l.fn.heads.front

abbrev pub invariant-loop-place : goal.invariant-loop-place
invariant-loop-place l = Taken l

abbrev pub decreases-loop-place : goal.decreases-loop-place
decreases-loop-place l = length l.cursors - l.place

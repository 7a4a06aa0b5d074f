use Rattle.std.proofs.Common.{◌≤◌, length}
use Rattle.uc_compact.specs.Fronts.{EndBy}
use Rattle.uc_compact.proofs.front.near_above.Given as goal

pub record Passed (l : goal.Live-loop-place) : Type 0 where
  pub bound : l.place ≤ length l.fragments
  pub before : EndBy l.key l.fragments l.place

abbrev pub invariant-loop-place : goal.invariant-loop-place
invariant-loop-place l = Passed l

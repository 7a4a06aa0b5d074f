use Rattle.std.proofs.Common.{◌≢◌, ◌≤◌, ◌-◌, length}
use Rattle.std.specs.List.{AllWithin}
use Rattle.uc_run.proofs.number_blocks.next_numbered.Given as goal

-- no place so far has the number
pub record Passed (l : goal.Live-loop-place) : Type 0 where
  pub within : l.place ≤ length l.numbers
  pub least : l.from ≤ l.place
  pub before : AllWithin (λ other. other ≢ l.number) l.numbers l.from l.place

abbrev pub invariant-loop-place : goal.invariant-loop-place
invariant-loop-place l = Passed l

abbrev pub decreases-loop-place : goal.decreases-loop-place
decreases-loop-place l = length l.numbers - l.place

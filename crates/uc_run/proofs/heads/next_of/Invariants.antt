use Rattle.std.proofs.Common.{◌≢◌, ◌-◌, ◌≤◌, Some, length, map, option_map}
use Rattle.std.specs.List.{AllWithin}
use Rattle.uc_run.proofs.heads.next_of.Given as goal

-- no key so far is the head's
pub record Passed (l : goal.Live-loop-walk) : Type 0 where
  pub from : l.from ≤ l.walk
  pub within : l.walk ≤ length l.keys
  pub before : AllWithin (λ key. key ≢ Some l.head.key.now) (map (option_map (λ key. key.now)) l.keys) l.from l.walk

abbrev pub invariant-loop-walk : goal.invariant-loop-walk
invariant-loop-walk l = Passed l

abbrev pub decreases-loop-walk : goal.decreases-loop-walk
decreases-loop-walk l = length l.keys - l.walk

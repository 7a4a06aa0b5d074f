use Rattle.std.proofs.Common.{◌≡◌, ◌-◌, ◌<◌, ◌≤◌, ℕ, List, length, map, take, option_map}
use Rattle.std.specs.List.{HoldsAt}
use Rattle.uc_run.specs.Heads.{AreNumbered, IsLeast}
use Rattle.uc_run.proofs.LeastNumber.{numbered}
use Rattle.uc_run.proofs.heads.least_of.Given as goal

-- of the keys so far, the least of those with the least number
pub record Compared (l : goal.Live-loop-walk) : Type 0 where
  pub within : l.walk ≤ length l.numbers
  pub there : l.walk < length l.numbers → HoldsAt (λ number. number ≡ l.low) l.numbers l.walk
  pub least : (front : List ℕ) → AreNumbered front (map (option_map (λ key. key.now)) l.keys) l.numbers → IsLeast (map (λ key. numbered front l.low (option_map (λ k. k.now) key)) (take l.walk l.keys)) (option_map (λ k. k.now) l.least)

abbrev pub invariant-loop-walk : goal.invariant-loop-walk
invariant-loop-walk l = Compared l

abbrev pub decreases-loop-walk : goal.decreases-loop-walk
decreases-loop-walk l = length l.keys - l.walk

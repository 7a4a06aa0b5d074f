use Rattle.std.proofs.Common.{◌≡◌, ℕ, ◌-◌, Option}
use Rattle.uc_log_crash.specs.Places.{in_blocks, block_count, IsFirst}
use Rattle.uc_log_crash.proofs.search.first_in_blocks.Given as goal

-- what is found first in the blocks from here on is so in all of them
pub record Sought (l : goal.Live-loop-block) : Type 0 where
  pub count_is : l.count ≡ block_count l.log
  pub so_far : (found : Option ℕ) → IsFirst l.log l.end l.last (in_blocks (block_count l.log - l.block) l.log l.block) found → IsFirst l.log l.end l.last (in_blocks (block_count l.log - l.begin) l.log l.begin) found

abbrev pub invariant-loop-block : goal.invariant-loop-block
invariant-loop-block l = Sought l

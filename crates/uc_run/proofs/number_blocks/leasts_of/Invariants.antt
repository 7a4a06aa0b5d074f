use Rattle.std.proofs.Common.{◌≡◌, ◌<◌, ℕ, length, get_or}
use Rattle.uc_run.specs.NumberBlocks.{IsLeastNumber, numbers_in}
use Rattle.uc_run.proofs.number_blocks.leasts_of.Given as goal

-- the least numbers of the blocks so far
abbrev pub invariant-loop-block : goal.invariant-loop-block
invariant-loop-block l = (length l.leasts.items ≡ l.block) × ((i : ℕ) (d : ℕ) → i < length l.leasts.items → IsLeastNumber (numbers_in l.numbers i) (get_or l.leasts.items i d))

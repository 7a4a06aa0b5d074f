use Rattle.std.proofs.Common.{take}
use Rattle.uc_run.specs.NumberBlocks.{IsLeastNumber}
use Rattle.uc_run.proofs.number_blocks.least_number.Given as goal

-- the least of the numbers so far
abbrev pub invariant-loop-number : goal.invariant-loop-number
invariant-loop-number l = IsLeastNumber (take l.number-index l.numbers) l.least

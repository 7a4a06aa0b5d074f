use Rattle.uc_run.proofs.LeastInBlocks.{least_more}
use Rattle.uc_run.proofs.number_blocks.least_number.Goals as goal

pub loop-number-preserved : goal.loop-number-preserved
loop-number-preserved c = least_more c.args.numbers.now c.loop-number.number-index c.loop-number.least c.min-least.result c.loop-number-test.true c.min-least.ensures c.loop-number.invariant

use Rattle.uc_rows.proofs.Passed.{behind_more}
use Rattle.uc_rows.proofs.row_iter.RowIter.pass.Goals as goal

pub loop-preserved : goal.loop-preserved
loop-preserved c = behind_more c.args.self.now c.loop.self c.next.new.self c.loop.counter c.next.result c.loop.invariant c.next.ensures.steps

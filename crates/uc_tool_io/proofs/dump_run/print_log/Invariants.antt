use Rattle.uc_batch.specs.Log.{log_writes}
use Rattle.uc_tool_io.proofs.Dumps.{DumpsOn}
use Rattle.uc_tool_io.proofs.dump_run.print_log.Given as goal

abbrev pub invariant-loop-lines : goal.invariant-loop-lines
invariant-loop-lines g l = DumpsOn (log_writes l.fn.log) l.batches (g.W.Write.contents l.fn.writer) (g.W.Write.contents l.writer)

abbrev pub decreases-loop-lines : goal.decreases-loop-lines
decreases-loop-lines g l = l.batches.left

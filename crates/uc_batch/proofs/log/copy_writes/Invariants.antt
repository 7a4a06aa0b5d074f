use Rattle.uc_batch.specs.Log.{log_writes}
use Rattle.uc_batch.proofs.Joined.{JoinsOn}
use Rattle.uc_batch.proofs.log.copy_writes.Given as goal

abbrev pub invariant-loop-log : goal.invariant-loop-log
invariant-loop-log l = JoinsOn (log_writes l.bytes) l.log l.writes.items

abbrev pub decreases-loop-log : goal.decreases-loop-log
decreases-loop-log l = l.log.left

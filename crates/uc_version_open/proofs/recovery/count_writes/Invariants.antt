use Rattle.std.proofs.Common.{◌≡◌, List, length}
use Rattle.uc_bytes.specs.declared.write.Write.{Write}
use Rattle.uc_batch.specs.Log.{log_writes}
use Rattle.uc_batch.proofs.Joined.{JoinsOn}
use Rattle.uc_version_open.proofs.recovery.count_writes.Given as goal

abbrev pub invariant-loop-batches : goal.invariant-loop-batches
invariant-loop-batches l = (writes : List Write) × JoinsOn (log_writes l.log) l.batches writes × (l.count ≡ length writes)

abbrev pub decreases-loop-batches : goal.decreases-loop-batches
decreases-loop-batches l = l.batches.left

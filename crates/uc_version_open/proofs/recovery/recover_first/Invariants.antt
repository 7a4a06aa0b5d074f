use Rattle.std.proofs.Common.{List}
use Rattle.uc_bytes.specs.declared.write.Write.{Write}
use Rattle.uc_batch.specs.Log.{log_writes}
use Rattle.uc_batch.proofs.Joined.{JoinsOn}
use Rattle.uc_version_open.specs.Parting.{IsParted}
use Rattle.uc_version_open.proofs.recovery.recover_first.Given as goal

abbrev pub invariant-loop-batches : goal.invariant-loop-batches
invariant-loop-batches g l = (writes : List Write) × JoinsOn (log_writes l.log) l.batches writes × IsParted l.fn.options l.fn.most writes l.parted.opener l.parted.left l.parted.behind.items

abbrev pub decreases-loop-batches : goal.decreases-loop-batches
decreases-loop-batches g l = l.batches.left

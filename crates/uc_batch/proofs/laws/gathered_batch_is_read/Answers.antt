use Rattle.uc_batch.proofs.Renumbered.{renumbered, renumbered_read, renumbered_refused, renumbered_only}
use Rattle.uc_batch.proofs.laws.gathered_batch_is_read.Goals as goal

pub returns : goal.returns
returns c = record { text = renumbered; read = renumbered_read; refused = renumbered_refused; only = renumbered_only }

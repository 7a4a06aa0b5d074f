use Rattle.uc_batch.proofs.Again.{batch_again}
use Rattle.uc_batch.proofs.laws.written_batch_is_read.Goals as goal

pub returns : goal.returns
returns c = batch_again

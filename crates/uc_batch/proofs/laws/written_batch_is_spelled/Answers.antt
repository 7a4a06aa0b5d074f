use Rattle.uc_batch.proofs.Spelled.{batch_spelled}
use Rattle.uc_batch.proofs.laws.written_batch_is_spelled.Goals as goal

pub returns : goal.returns
returns c = batch_spelled

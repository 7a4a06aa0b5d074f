use Rattle.uc_batch.proofs.Refused.{batch_refused}
use Rattle.uc_batch.proofs.laws.refusal_stands_in_batch.Goals as goal

pub returns : goal.returns
returns c = batch_refused

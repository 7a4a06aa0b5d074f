use Rattle.uc_folder.proofs.Records.{sequence_reads}
use Rattle.uc_folder.proofs.laws.no_later_batch_is_read_as_the_next.Goals as goal

pub returns : goal.returns
returns c = λ place records. sequence_reads place records

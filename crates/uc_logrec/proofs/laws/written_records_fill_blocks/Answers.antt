use Rattle.uc_logrec.proofs.LaidOut.{is_laid_out}
use Rattle.uc_logrec.proofs.laws.written_records_fill_blocks.Goals as goal

pub returns : goal.returns
returns c = is_laid_out

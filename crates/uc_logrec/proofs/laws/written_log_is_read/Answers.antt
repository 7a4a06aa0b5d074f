use Rattle.uc_logrec.proofs.RoundTrip.{is_read_again}
use Rattle.uc_logrec.proofs.laws.written_log_is_read.Goals as goal

pub returns : goal.returns
returns c = is_read_again

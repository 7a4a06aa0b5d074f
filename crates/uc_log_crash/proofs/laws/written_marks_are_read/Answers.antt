use Rattle.uc_log_crash.proofs.ReadBack.{marks_are_read}
use Rattle.uc_log_crash.proofs.laws.written_marks_are_read.Goals as goal

pub returns : goal.returns
returns c = marks_are_read

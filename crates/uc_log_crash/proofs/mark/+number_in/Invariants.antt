use Rattle.std.proofs.Common.{length}
use Rattle.uc_log_crash.proofs.mark.+number_in.Given as goal

abbrev pub decreases-number_in : goal.decreases-number_in
decreases-number_in l = length l.bytes.now

use Rattle.uc_log_crash.proofs.Onward.{nothing_is_told}
use Rattle.uc_log_crash.proofs.laws.crash_is_no_damage.Goals as goal

pub returns : goal.returns
returns c = nothing_is_told

use Rattle.uc_logrec.proofs.Walking.{goes_on}
use Rattle.uc_logrec.proofs.laws.log_goes_on.Goals as goal

pub returns : goal.returns
returns c = goes_on

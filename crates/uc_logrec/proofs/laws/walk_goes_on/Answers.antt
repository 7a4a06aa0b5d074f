use Rattle.uc_logrec.proofs.Walking.{walks_on}
use Rattle.uc_logrec.proofs.laws.walk_goes_on.Goals as goal

pub returns : goal.returns
returns c = walks_on

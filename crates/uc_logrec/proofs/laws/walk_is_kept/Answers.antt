use Rattle.uc_logrec.proofs.Walking.{walks_kept}
use Rattle.uc_logrec.proofs.laws.walk_is_kept.Goals as goal

pub returns : goal.returns
returns c = walks_kept

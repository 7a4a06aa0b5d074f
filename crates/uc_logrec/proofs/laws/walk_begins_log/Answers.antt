use Rattle.uc_logrec.proofs.Walking.{begins_with}
use Rattle.uc_logrec.proofs.laws.walk_begins_log.Goals as goal

pub returns : goal.returns
returns c = begins_with

use Rattle.uc_live.proofs.Taken.{created_taken}
use Rattle.uc_live.proofs.laws.created_stores_have_taken_nothing.Goals as goal

pub returns : goal.returns
returns g c = created_taken g.O.Operator.meaning

use Rattle.uc_model.proofs.Givers.{value_given}
use Rattle.uc_model.proofs.laws.value_is_given.Goals as goal

pub returns : goal.returns
returns g c = λ ws key value at. value_given g.O.Operator.meaning key value at ws

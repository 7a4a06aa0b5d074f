use Rattle.uc_share.proofs.Machine.{in_place, stand_still, made_for}
use Rattle.uc_share.proofs.laws.steps_are_those_of_the_machine.Goals as goal

pub returns : goal.returns
returns g c = record { look = λ noted v. (in_place noted v, stand_still noted v); install = made_for g.O.Operator.meaning }

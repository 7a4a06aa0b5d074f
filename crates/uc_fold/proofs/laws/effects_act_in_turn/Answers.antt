use Rattle.uc_fold.proofs.InTurn.{whole-in_turn}
use Rattle.uc_fold.proofs.laws.effects_act_in_turn.Goals as goal

pub returns : goal.returns
returns g c = whole-in_turn g.met.O.Operator.lawful

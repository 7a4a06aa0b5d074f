use Rattle.uc_model.proofs.MeaningLaws.{parts_compose}
use Rattle.uc_model.proofs.laws.effects_of_parts_compose.Goals as goal

pub returns : goal.returns
returns g c = parts_compose g.O.Operator.meaning g.met.O.Operator.lawful

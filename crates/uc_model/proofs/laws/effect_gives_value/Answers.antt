use Rattle.std.proofs.Common.{None}
use Rattle.uc_model.proofs.MeaningLaws.{effect_gives}
use Rattle.uc_model.proofs.laws.effect_gives_value.Goals as goal

pub returns : goal.returns
returns g c =
    let m = g.O.Operator.meaning in
    let laws = g.met.O.Operator.lawful in
    record { from = effect_gives m laws; none = effect_gives m laws None }

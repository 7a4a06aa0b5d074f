use Rattle.std.proofs.Common.{None}
use Rattle.uc_model.proofs.MeaningLaws.{effect_continues}
use Rattle.uc_model.proofs.laws.effect_continues_value.Goals as goal

pub returns : goal.returns
returns g c =
    let m = g.O.Operator.meaning in
    let laws = g.met.O.Operator.lawful in
    record { from = effect_continues m laws; none = effect_continues m laws None }

use Rattle.uc_model.proofs.MeaningLaws.{later_keep, later_no_effect, later_change_nothing}
use Rattle.uc_model.proofs.laws.later_writes_change_nothing.Goals as goal

pub returns : goal.returns
returns g c =
    let m = g.O.Operator.meaning in
    record { alone = later_keep m; effect = later_no_effect m; value = later_change_nothing m }

use Rattle.uc_model.proofs.MeaningLaws.{untouched_keep, untouched_no_effect, untouched_change_nothing}
use Rattle.uc_model.proofs.laws.untouched_key_keeps_its_value.Goals as goal

pub returns : goal.returns
returns g c =
    let m = g.O.Operator.meaning in
    record { alone = untouched_keep m; effect = untouched_no_effect m; value = untouched_change_nothing m }

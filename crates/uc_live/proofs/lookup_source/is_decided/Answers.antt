use Rattle.std.proofs.Common.{ap, ◌∙◌}
use Rattle.uc_oper.specs.Lent.{sets}
use Rattle.uc_live.proofs.SeenEffects.{same_test, sets_if_decided}
use Rattle.uc_live.proofs.lookup_source.is_decided.Goals as goal

pub returns : goal.returns
returns g c =
    let shown = c.args.gathered.now.shown in
    same_test c.is_set.result (sets c.in_ok-effect.effect) c.is_set.ensures
    ∙ ap sets c.in_ok-effect.ensures
    ∙ sets_if_decided g.O.Operator.meaning shown c.args.key.now c.args.at

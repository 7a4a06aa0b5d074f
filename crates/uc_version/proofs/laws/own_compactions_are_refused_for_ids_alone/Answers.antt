use Rattle.uc_version.proofs.OwnCompactions.{own_may_later, own_refused_later}
use Rattle.uc_version.proofs.laws.own_compactions_are_refused_for_ids_alone.Goals as goal

pub returns : goal.returns
returns g c =
    let m = g.O.Operator.meaning in
    record {
      may = λ o p claim events is_owner is_later held held_later follow version same left.
          own_may_later m o p claim events is_owner is_later held held_later follow version same c.own_compactions_stay_installable.ensures.may left;
      refused = λ o p claim events error is_owner is_later held held_later follow version same refused.
          own_refused_later m o p claim events is_owner is_later held held_later follow version same c.own_compactions_stay_installable.ensures.in_place error refused;
    }

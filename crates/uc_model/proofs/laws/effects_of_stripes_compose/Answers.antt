use Rattle.uc_model.proofs.Stripes.{stripe_below, stripe_changes, stripes_between}
use Rattle.uc_model.proofs.laws.effects_of_stripes_compose.Goals as goal

pub returns : goal.returns
returns g c =
    let m = g.O.Operator.meaning in
    let laws = g.met.O.Operator.lawful in
    record {
      below = λ ws key low high rise. stripe_below m laws ws key rise low high;
      value = λ ws key low high rise. stripe_changes m laws ws key rise low high;
      between = λ ws key low middle high rise. stripes_between m laws ws key rise low middle high;
    }

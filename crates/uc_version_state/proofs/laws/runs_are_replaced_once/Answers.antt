use Rattle.uc_version_state.proofs.Ids.{given_are_apart, replaced_are_apart}
use Rattle.uc_version_state.proofs.laws.runs_are_replaced_once.Goals as goal

pub returns : goal.returns
returns g c =
    let m = g.O.Operator.meaning in
    let laws = g.met.O.Operator.lawful in
    record {
      given = λ h legal. given_are_apart c.flushed_writes_are_a_run.ensures m laws h legal (c.opening_gives_a_version.ensures h.opening legal.opens);
      replaced = λ h legal. replaced_are_apart c.flushed_writes_are_a_run.ensures m laws h legal (c.opening_gives_a_version.ensures h.opening legal.opens);
    }

use Rattle.uc_version_state.proofs.SameRuns.{stays}
use Rattle.uc_version_state.proofs.laws.runs_stay_until_replaced.Goals as goal

pub returns : goal.returns
returns g c v e run may has kept = stays g.O.Operator.meaning v e run may has kept

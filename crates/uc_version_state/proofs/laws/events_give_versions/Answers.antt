use Rattle.uc_version_state.proofs.Along.{version_stays}
use Rattle.uc_version_state.proofs.laws.events_give_versions.Goals as goal

pub returns : goal.returns
returns g c v e is_version may = version_stays c.flushed_writes_are_a_run.ensures g.O.Operator.meaning g.met.O.Operator.lawful v e is_version may

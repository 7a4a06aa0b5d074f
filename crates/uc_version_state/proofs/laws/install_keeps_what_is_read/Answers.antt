use Rattle.uc_version_state.proofs.Replacing.{value_stays}
use Rattle.uc_version_state.proofs.laws.install_keeps_what_is_read.Goals as goal

pub returns : goal.returns
returns g c v i key at is_version may kept = value_stays g.O.Operator.meaning g.met.O.Operator.lawful v i is_version may key at kept

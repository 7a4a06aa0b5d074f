use Rattle.uc_version_state.proofs.Installed.{installed_is_version}
use Rattle.uc_version_state.proofs.laws.install_gives_a_version.Goals as goal

pub returns : goal.returns
returns g c v i is_version may = installed_is_version g.O.Operator.meaning g.met.O.Operator.lawful v i is_version may

use Rattle.uc_share.proofs.Behind.{legal_behind, version_behind}
use Rattle.uc_share.proofs.front_laws.fronts_go_behind_histories.Goals as goal

pub returns : goal.returns
returns g c = record { legal = legal_behind g.O.Operator.meaning; after = version_behind }

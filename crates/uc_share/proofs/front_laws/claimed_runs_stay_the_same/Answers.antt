use Rattle.uc_share.proofs.Claimed.{claimed_same}
use Rattle.uc_share.proofs.front_laws.claimed_runs_stay_the_same.Goals as goal

pub returns : goal.returns
returns g c = claimed_same g.O.Operator.meaning

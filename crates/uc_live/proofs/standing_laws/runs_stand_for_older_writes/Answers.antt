use Rattle.uc_live.proofs.Standing.{stands_older}
use Rattle.uc_live.proofs.standing_laws.runs_stand_for_older_writes.Goals as goal

pub returns : goal.returns
returns g c = stands_older g.O.Operator.meaning

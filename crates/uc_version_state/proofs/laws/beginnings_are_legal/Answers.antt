use Rattle.uc_version_state.proofs.SameRuns.{begins}
use Rattle.uc_version_state.proofs.laws.beginnings_are_legal.Goals as goal

pub returns : goal.returns
returns g c h later legal = begins g.O.Operator.meaning h later legal

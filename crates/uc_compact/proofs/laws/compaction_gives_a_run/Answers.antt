use Rattle.uc_compact.proofs.OutputRun.{output_is_run}
use Rattle.uc_compact.proofs.laws.compaction_gives_a_run.Goals as goal

pub returns : goal.returns
returns g c = λ compaction are stand. output_is_run g.O.Operator.meaning compaction are stand

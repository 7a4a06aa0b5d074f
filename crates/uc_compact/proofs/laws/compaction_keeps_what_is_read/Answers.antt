use Rattle.uc_compact.proofs.Staying.{keeps_reads}
use Rattle.uc_compact.proofs.laws.compaction_keeps_what_is_read.Goals as goal

pub returns : goal.returns
returns g c compaction are stand = keeps_reads g.O.Operator.meaning g.met.O.Operator.lawful compaction are stand

use Rattle.uc_compact.proofs.Staying.{keeps_stripes}
use Rattle.uc_compact.proofs.laws.compaction_keeps_each_stripe.Goals as goal

pub returns : goal.returns
returns g c compaction are stand = keeps_stripes g.O.Operator.meaning g.met.O.Operator.lawful compaction are stand

use Rattle.uc_compact.proofs.Leaving.{one_point, one_seq}
use Rattle.uc_compact.proofs.laws.compaction_keeps_one_of_each_stripe.Goals as goal

pub returns : goal.returns
returns g c compaction are stand = record {
  points = one_point g.O.Operator.meaning compaction are stand;
  fragments = one_seq g.O.Operator.meaning compaction are stand;
}

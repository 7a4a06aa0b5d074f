use Rattle.uc_compact.proofs.Leaving.{only_values, no_seqs}
use Rattle.uc_compact.proofs.laws.compaction_of_the_oldest_leaves_values.Goals as goal

pub returns : goal.returns
returns g c compaction are stand = record {
  points = only_values g.O.Operator.meaning compaction are stand;
  fragments = no_seqs g.O.Operator.meaning compaction are stand;
}

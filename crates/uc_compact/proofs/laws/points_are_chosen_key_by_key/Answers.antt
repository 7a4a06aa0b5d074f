use Rattle.uc_compact.proofs.Chosen.{chosen, of_one_key}
use Rattle.uc_compact.proofs.laws.points_are_chosen_key_by_key.Goals as goal

pub returns : goal.returns
returns g c = record {
  points = λ compaction are stand. chosen g.O.Operator.meaning compaction are stand g.met.O.Operator.lawful;
  fall = λ compaction key are stand. of_one_key g.O.Operator.meaning compaction are stand key;
}

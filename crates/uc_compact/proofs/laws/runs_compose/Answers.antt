use Rattle.uc_model.proofs.MeaningLaws.{parts_compose}
use Rattle.uc_run_entry.specs.PlainList.{plain_list}
use Rattle.uc_compact.specs.Inputs.{writes_of}
use Rattle.uc_compact.proofs.Staying.{writes_in_order}
use Rattle.uc_compact.proofs.laws.runs_compose.Goals as goal

pub returns : goal.returns
returns g c = record {
  order = λ runs are newest_first. writes_in_order runs are newest_first;
  effects = λ newest older key at. parts_compose g.O.Operator.meaning g.met.O.Operator.lawful (writes_of older) (plain_list newest) key at;
}

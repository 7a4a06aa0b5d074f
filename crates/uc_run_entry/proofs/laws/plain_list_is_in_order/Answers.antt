use Rattle.uc_run_entry.specs.PlainList.{writes_of}
use Rattle.uc_run_entry.proofs.BySeq.{moved-by_seq, non_decreasing}
use Rattle.uc_run_entry.proofs.laws.plain_list_is_in_order.Goals as goal

pub returns : goal.returns
returns c = record {
  same = λ run. moved-by_seq (writes_of run);
  ascends = λ run. non_decreasing (writes_of run);
}

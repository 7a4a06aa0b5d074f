use Rattle.std.proofs.Common.{leb}
use Rattle.uc_run_entry.proofs.Lookup.{found_is}
use Rattle.uc_run.proofs.OtherKeys.{kept}
use Rattle.uc_run.proofs.laws.other_keys_are_kept.Goals as goal

pub returns : goal.returns
returns g c run key next at is h other none = kept key at g.O.Operator.meaning (λ run key at is. found_is g.O.Operator.meaning run is key (λ seq. leb seq at)) run next is h other none

use Rattle.std.specs.Prelude.{nat_le}
use Rattle.uc_run_entry.proofs.Lookup.{found_is}
use Rattle.uc_run_entry.proofs.laws.plain_list_does_what_is_found.Goals as goal

pub returns : goal.returns
returns g c run key at is_run = found_is g.O.Operator.meaning run is_run key (λ seq. nat_le seq at)

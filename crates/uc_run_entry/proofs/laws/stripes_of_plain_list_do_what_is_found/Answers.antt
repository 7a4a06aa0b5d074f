use Rattle.uc_run_entry.proofs.Lookup.{found_within}
use Rattle.uc_run_entry.proofs.laws.stripes_of_plain_list_do_what_is_found.Goals as goal

pub returns : goal.returns
returns g c run key low high is_run = found_within g.O.Operator.meaning run is_run key low high

use Rattle.uc_run.proofs.LeastKey.{next_key}
use Rattle.uc_run.proofs.laws.keys_at_places_are_next.Goals as goal

pub returns : goal.returns
returns c run low strict is = next_key low strict run.points is.points_sorted

use Rattle.uc_run_points.proofs.Unique.{entries_alike}
use Rattle.uc_run_points.proofs.laws.spelling_is_unique.Goals as goal

pub returns : goal.returns
returns c = entries_alike

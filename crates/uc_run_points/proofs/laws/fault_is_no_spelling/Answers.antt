use Rattle.uc_run_points.proofs.Unique.{no_spelling}
use Rattle.uc_run_points.proofs.laws.fault_is_no_spelling.Goals as goal

pub returns : goal.returns
returns c = no_spelling

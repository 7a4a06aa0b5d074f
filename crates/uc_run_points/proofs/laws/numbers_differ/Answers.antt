use Rattle.uc_run_points.proofs.Unique.{numbers_apart}
use Rattle.uc_run_points.proofs.laws.numbers_differ.Goals as goal

pub returns : goal.returns
returns c = numbers_apart

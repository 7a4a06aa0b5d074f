use Rattle.std.proofs.Common.{refl}
use Rattle.uc_run_folder.proofs.laws.runs_are_kept_and_removed.Goals as goal

pub returns-clause-read : goal.returns-clause-read
returns-clause-read c = λ a b. refl

pub returns-clause-gone : goal.returns-clause-gone
returns-clause-gone c = λ a b. refl

pub returns-clause-recovered : goal.returns-clause-recovered
returns-clause-recovered c = λ a b. refl

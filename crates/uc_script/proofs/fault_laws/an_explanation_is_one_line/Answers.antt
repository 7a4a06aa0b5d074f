use Rattle.uc_script.proofs.Said.{explanation_shown}
use Rattle.uc_script.proofs.fault_laws.an_explanation_is_one_line.Goals as goal

pub returns : goal.returns
returns c = explanation_shown

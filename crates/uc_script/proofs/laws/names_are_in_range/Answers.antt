use Rattle.uc_script.proofs.Judged.{script_of-comes}
use Rattle.uc_script.proofs.Names.{good_names}
use Rattle.uc_script.proofs.laws.names_are_in_range.Goals as goal

pub returns : goal.returns
returns c = good_names script_of-comes

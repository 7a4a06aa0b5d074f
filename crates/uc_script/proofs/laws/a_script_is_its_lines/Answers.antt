use Rattle.uc_script.proofs.Judged.{script_of-comes, script_of-alone}
use Rattle.uc_script.proofs.laws.a_script_is_its_lines.Goals as goal

pub returns-clause-comes : goal.returns-clause-comes
returns-clause-comes c = script_of-comes

pub returns-clause-alone : goal.returns-clause-alone
returns-clause-alone c = script_of-alone

use Rattle.uc_script.proofs.HeadJudged.{head_of-comes, head_of-alone}
use Rattle.uc_script.proofs.laws.a_head_is_its_lines.Goals as goal

pub returns-clause-comes : goal.returns-clause-comes
returns-clause-comes c = head_of-comes

pub returns-clause-alone : goal.returns-clause-alone
returns-clause-alone c = head_of-alone

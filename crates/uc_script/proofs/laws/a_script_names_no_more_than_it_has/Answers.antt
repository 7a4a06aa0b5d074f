use Rattle.uc_script.proofs.Judged.{script_of-comes}
use Rattle.uc_script.proofs.Short.{no_longer}
use Rattle.uc_script.proofs.laws.a_script_names_no_more_than_it_has.Goals as goal

pub returns-clause-opened : goal.returns-clause-opened
returns-clause-opened c text script read = (no_longer script_of-comes text script read).0

pub returns-clause-all : goal.returns-clause-all
returns-clause-all c text script read = (no_longer script_of-comes text script read).1

use Rattle.uc_run_folder.proofs.Telling.{is_told, is_asked}
use Rattle.uc_run_folder.proofs.laws.the_machine_is_told.Goals as goal

pub returns-clause-told : goal.returns-clause-told
returns-clause-told c = λ w o rows same. is_told w w.phase o rows same

pub returns-clause-asked : goal.returns-clause-asked
returns-clause-asked c = λ w n past count kept. is_asked w n past count kept

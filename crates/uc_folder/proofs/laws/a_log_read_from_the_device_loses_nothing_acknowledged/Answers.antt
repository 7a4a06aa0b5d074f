use Rattle.uc_folder.proofs.Histories.{reread_reads, reread_prefix, reread_acked, reread_readable}
use Rattle.uc_folder.proofs.laws.a_log_read_from_the_device_loses_nothing_acknowledged.Goals as goal

pub returns-clause-readable : goal.returns-clause-readable
returns-clause-readable c = λ events keep. reread_readable events keep

pub returns-clause-prefix : goal.returns-clause-prefix
returns-clause-prefix c = λ events keep. reread_prefix events keep

pub returns-clause-acknowledged : goal.returns-clause-acknowledged
returns-clause-acknowledged c = λ events keep. reread_acked events keep

pub returns-clause-goes_on : goal.returns-clause-goes_on
returns-clause-goes_on c = λ events left least top sealed keep. reread_reads events left least top sealed keep

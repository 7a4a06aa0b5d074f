use Rattle.uc_folder.proofs.Histories.{restart_all, restart_submitted, restart_prefix, restart_acked, restart_answered, restart_readable}
use Rattle.uc_folder.proofs.laws.a_process_that_ends_loses_nothing_answered.Goals as goal

pub returns-clause-readable : goal.returns-clause-readable
returns-clause-readable c = λ events. restart_readable events

pub returns-clause-prefix : goal.returns-clause-prefix
returns-clause-prefix c = λ events. restart_prefix events

pub returns-clause-answered : goal.returns-clause-answered
returns-clause-answered c = λ events. restart_answered events

pub returns-clause-acknowledged : goal.returns-clause-acknowledged
returns-clause-acknowledged c = λ events. restart_acked events

pub returns-clause-goes_on : goal.returns-clause-goes_on
returns-clause-goes_on c = λ events least top sealed. restart_all events least top sealed

pub returns-clause-submitted : goal.returns-clause-submitted
returns-clause-submitted c = λ events least top sealed keep whole. restart_submitted events least top sealed keep whole

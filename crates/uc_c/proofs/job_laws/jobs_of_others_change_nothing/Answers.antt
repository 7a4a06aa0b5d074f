use Rattle.uc_c.proofs.Ended.{others_refused, others_stay}
use Rattle.uc_c.proofs.job_laws.jobs_of_others_change_nothing.Goals as goal

pub returns-clause-refused : goal.returns-clause-refused
returns-clause-refused c status e store' job job' installed other lasts is = others_refused e job other status store' job' installed lasts is

pub returns-clause-store : goal.returns-clause-store
returns-clause-store c status e store' job job' installed other is = (others_stay e job other status store' job' installed is).0

pub returns-clause-job : goal.returns-clause-job
returns-clause-job c status e store' job job' installed other is = (others_stay e job other status store' job' installed is).1

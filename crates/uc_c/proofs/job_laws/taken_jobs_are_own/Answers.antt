use Rattle.uc_c.proofs.Ended.{taken_own}
use Rattle.uc_c.proofs.job_laws.taken_jobs_are_own.Goals as goal

pub returns-clause-taken : goal.returns-clause-taken
returns-clause-taken c = taken_own c.flushes_go_in.ensures.started c.flushes_go_in.ensures.own

use Rattle.uc_live.proofs.JobsHeld.{started_is, starts, not_started}
use Rattle.uc_live.proofs.live_store.LiveStore.start_job.Goals as goal

pub invariant_of-self : goal.invariant_of-self
invariant_of-self g c = started_is c.self.inside c.self.invariant c.start_job.new.self c.args.self.now c.self.view_is c.start_job.result c.start_job.ensures.ok c.start_job.ensures.err

pub returns-clause-ok : goal.returns-clause-ok
returns-clause-ok g c = starts c.self.inside c.self.invariant c.start_job.new.self c.args.self.now c.self.view_is c.start_job.result c.start_job.ensures.ok

pub returns-clause-err : goal.returns-clause-err
returns-clause-err g c = not_started c.self.inside c.self.invariant c.start_job.new.self c.args.self.now c.self.view_is c.start_job.result c.start_job.ensures.err

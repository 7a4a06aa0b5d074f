use Rattle.std.proofs.Common.{◌≡◌, true, sym, subst}
use Rattle.uc_version.specs.Claiming.{is_held}
use Rattle.uc_version.specs.Jobs.{IsOwn}
use Rattle.uc_live.specs.Lives.{Live, owner_in}
use Rattle.uc_live.proofs.JobsHeld.{put_is, ended_base, ends}
use Rattle.uc_live.proofs.live_store.LiveStore.end_job.Goals as goal

pub end_job-requires-clause-held : goal.end_job-requires-clause-held
end_job-requires-clause-held g c = subst (λ (l : Live). is_held (owner_in l) c.args.job.now.claim ≡ true) (sym c.self.view_is) c.requires.held

pub end_job-requires-clause-own : goal.end_job-requires-clause-own
end_job-requires-clause-own g c = subst (λ (l : Live). IsOwn (owner_in l) c.args.job.now) (sym c.self.view_is) c.requires.own

pub invariant_of-self : goal.invariant_of-self
invariant_of-self g c =
    let i = c.self.inside in
    put_is i c.self.invariant c.end_job.new.self (ended_base g.O.Operator.meaning c.args.job.now i.owned c.end_job.new.self c.end_job.result c.end_job.ensures.ended)

pub returns-clause-ended : goal.returns-clause-ended
returns-clause-ended g c = ends c.self.inside c.self.invariant c.end_job.new.self c.args.self.now c.self.view_is g.O.Operator.meaning c.args.job.now c.end_job.result c.end_job.ensures.ended

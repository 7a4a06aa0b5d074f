use Rattle.uc_live.proofs.FlushesTaken.{flush_ended_out}
use Rattle.uc_live.proofs.flush_laws.jobs_stay_out_beside_flushes.Goals as goal

pub returns-clause-ended : goal.returns-clause-ended
returns-clause-ended g c old new job other end owner out rising own ends =
    flush_ended_out g.O.Operator.meaning c.no_refusal_is_leave_to_feed.ensures old new other rising own c.claims_keep_their_runs.ensures.over_a_feed owner job out end ends

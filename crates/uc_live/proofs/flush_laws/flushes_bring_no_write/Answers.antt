use Rattle.uc_live.proofs.FlushesTaken.{flush_ended_taken}
use Rattle.uc_live.proofs.flush_laws.flushes_bring_no_write.Goals as goal

pub returns-clause-ended : goal.returns-clause-ended
returns-clause-ended g c old new before job end taken rising own ends =
    flush_ended_taken g.O.Operator.meaning c.no_refusal_is_leave_to_feed.ensures old new job rising own before end taken ends

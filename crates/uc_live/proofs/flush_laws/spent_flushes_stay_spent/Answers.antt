use Rattle.uc_live.proofs.FlushesSpent.{spent_run, spent_on, spent_snapshot, spent_release, spent_committed, spent_given_up, spent_started_beside, spent_ended_beside, spent_beside, spent_past, spent_own, spent_ends}
use Rattle.uc_live.proofs.flush_laws.spent_flushes_stay_spent.Goals as goal

pub returns-clause-run : goal.returns-clause-run
returns-clause-run g c = spent_run

pub returns-clause-goes_on : goal.returns-clause-goes_on
returns-clause-goes_on g c old new ws job spent on = spent_on old new job spent on.5

pub returns-clause-snapshot : goal.returns-clause-snapshot
returns-clause-snapshot g c = spent_snapshot g.O.Operator.meaning

pub returns-clause-release : goal.returns-clause-release
returns-clause-release g c = spent_release

pub returns-clause-committed : goal.returns-clause-committed
returns-clause-committed g c = spent_committed

pub returns-clause-given_up : goal.returns-clause-given_up
returns-clause-given_up g c = spent_given_up

pub returns-clause-beside_a_start : goal.returns-clause-beside_a_start
returns-clause-beside_a_start g c = spent_started_beside

pub returns-clause-beside_an_end : goal.returns-clause-beside_an_end
returns-clause-beside_an_end g c = spent_ended_beside g.O.Operator.meaning

pub returns-clause-beside_a_flush : goal.returns-clause-beside_a_flush
returns-clause-beside_a_flush g c = spent_beside

pub returns-clause-past_a_flush : goal.returns-clause-past_a_flush
returns-clause-past_a_flush g c = spent_past

pub returns-clause-own : goal.returns-clause-own
returns-clause-own g c = spent_own

pub returns-clause-ended : goal.returns-clause-ended
returns-clause-ended g c = spent_ends

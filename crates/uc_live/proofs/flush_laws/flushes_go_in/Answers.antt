use Rattle.uc_live.proofs.FlushesOut.{flush_started, flush_alone, flush_run, flush_lets, flush_snapshot, flush_release, flush_committed, flush_given_up, flush_started_beside, flush_ended_beside, flush_beside_flush, flush_past_flush, flush_own}
use Rattle.uc_live.proofs.flush_laws.flushes_go_in.Goals as goal

pub returns-clause-started : goal.returns-clause-started
returns-clause-started g c = flush_started

pub returns-clause-alone : goal.returns-clause-alone
returns-clause-alone g c = flush_alone

pub returns-clause-run : goal.returns-clause-run
returns-clause-run g c = flush_run

pub returns-clause-goes_on : goal.returns-clause-goes_on
returns-clause-goes_on g c old new ws job out on = flush_lets old new job out on.5

pub returns-clause-snapshot : goal.returns-clause-snapshot
returns-clause-snapshot g c = flush_snapshot g.O.Operator.meaning

pub returns-clause-release : goal.returns-clause-release
returns-clause-release g c = flush_release

pub returns-clause-committed : goal.returns-clause-committed
returns-clause-committed g c = flush_committed

pub returns-clause-given_up : goal.returns-clause-given_up
returns-clause-given_up g c = flush_given_up

pub returns-clause-beside_a_start : goal.returns-clause-beside_a_start
returns-clause-beside_a_start g c = flush_started_beside

pub returns-clause-beside_an_end : goal.returns-clause-beside_an_end
returns-clause-beside_an_end g c = flush_ended_beside g.O.Operator.meaning

pub returns-clause-beside_a_flush : goal.returns-clause-beside_a_flush
returns-clause-beside_a_flush g c = flush_beside_flush

pub returns-clause-past_a_flush : goal.returns-clause-past_a_flush
returns-clause-past_a_flush g c = flush_past_flush

pub returns-clause-own : goal.returns-clause-own
returns-clause-own g c = flush_own

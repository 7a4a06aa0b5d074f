use Rattle.std.proofs.Common.{[], ap}
use Rattle.uc_live.specs.Lives.{Live, committed, owner_in, unprepared}
use Rattle.uc_live.proofs.Going.{commit_on, given_up_on}
use Rattle.uc_live.proofs.Taken.{same_writes, taken_on, taken_snapshot, taken_release}
use Rattle.uc_live.proofs.JobsOut.{out_stands, ended_taken, started_taken}
use Rattle.uc_live.proofs.laws.taken_writes_add_up.Goals as goal

pub returns-clause-goes_on : goal.returns-clause-goes_on
returns-clause-goes_on g c = taken_on g.O.Operator.meaning

pub returns-clause-snapshot : goal.returns-clause-snapshot
returns-clause-snapshot g c = taken_snapshot g.O.Operator.meaning

pub returns-clause-release : goal.returns-clause-release
returns-clause-release g c = taken_release g.O.Operator.meaning

pub returns-clause-committed : goal.returns-clause-committed
returns-clause-committed g c l before taken =
    let m = g.O.Operator.meaning in
    taken_on m l (committed l) before l.prepared taken (commit_on m l)

pub returns-clause-given_up : goal.returns-clause-given_up
returns-clause-given_up g c l before taken =
    let m = g.O.Operator.meaning in
    same_writes m (unprepared l) before (taken_on m l (unprepared l) before [] taken (given_up_on m l))

pub returns-clause-started : goal.returns-clause-started
returns-clause-started g c old new before job taken starts = started_taken g.O.Operator.meaning job old new before taken starts

pub returns-clause-ended : goal.returns-clause-ended
returns-clause-ended g c old new before job end taken owner out ended =
    let m = g.O.Operator.meaning in
    let o = owner_in old in
    let stand = out_stands m job old out c.claims_can_be_compacted.ensures.stand in
    ended_taken m job old new end before taken ended.0 (ap (λ (l : Live). l.gathered) ended.1)
    (λ may. c.installs_are_events.ensures.may o job.claim job.compaction owner out.held stand may)
    (λ may. c.installs_are_events.ensures.after o job.claim job.compaction owner out.held stand may)

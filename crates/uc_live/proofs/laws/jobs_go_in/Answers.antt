use Rattle.std.proofs.Common.{[], subst}
use Rattle.uc_compact.specs.Inputs.{Compaction}
use Rattle.uc_version.specs.Installing.{IsRefused, stretch_of}
use Rattle.uc_live.specs.Lives.{committed, owner_in, unprepared}
use Rattle.uc_live.proofs.Going.{commit_on, given_up_on}
use Rattle.uc_live.proofs.JobsOut.{out_first, out_run, out_on, out_snapshot, out_release, out_beside, out_apart, out_past, out_own, out_stands}
use Rattle.uc_live.proofs.laws.jobs_go_in.Goals as goal

pub returns-clause-started : goal.returns-clause-started
returns-clause-started g c old new job owner starts =
    out_first g.O.Operator.meaning job old new owner starts (λ s fine. c.owners_stay_owners.ensures.claimed (owner_in old) s owner fine) (λ s fine. c.claims_are_held.ensures (owner_in old) s owner fine)

pub returns-clause-run : goal.returns-clause-run
returns-clause-run g c l job out = out_run g.O.Operator.meaning job l out

pub returns-clause-goes_on : goal.returns-clause-goes_on
returns-clause-goes_on g c old new ws job out on = out_on g.O.Operator.meaning job old new ws out on

pub returns-clause-snapshot : goal.returns-clause-snapshot
returns-clause-snapshot g c old new seq job out takes = out_snapshot g.O.Operator.meaning job old new seq out takes

pub returns-clause-release : goal.returns-clause-release
returns-clause-release g c l seq job out there = out_release g.O.Operator.meaning job l seq out there

pub returns-clause-committed : goal.returns-clause-committed
returns-clause-committed g c l job out = out_on g.O.Operator.meaning job l (committed l) l.prepared out (commit_on g.O.Operator.meaning l)

pub returns-clause-given_up : goal.returns-clause-given_up
returns-clause-given_up g c l job out = out_on g.O.Operator.meaning job l (unprepared l) [] out (given_up_on g.O.Operator.meaning l)

pub returns-clause-beside_a_start : goal.returns-clause-beside_a_start
returns-clause-beside_a_start g c old new job other owner out starts =
    out_beside g.O.Operator.meaning job old new owner out c.claims_keep_their_runs.ensures.over_a_claim other starts

pub returns-clause-apart : goal.returns-clause-apart
returns-clause-apart g c old new job other owner out starts =
    out_apart g.O.Operator.meaning job old new owner out c.claims_keep_their_runs.ensures.over_a_claim other starts

pub returns-clause-beside_an_end : goal.returns-clause-beside_an_end
returns-clause-beside_an_end g c old new job other end owner out others differs ended =
    let m = g.O.Operator.meaning in
    let o = owner_in old in
    let stand = out_stands m other old others c.claims_can_be_compacted.ensures.stand in
    out_past m job old new owner out other others.held differs c.claims_keep_their_runs.ensures.held_on c.claims_keep_their_runs.ensures.kept c.claims_keep_their_runs.ensures.over_an_abandon
    (λ may. c.installs_are_events.ensures.may o other.claim other.compaction owner others.held stand may)
    (λ may. c.installs_are_events.ensures.after o other.claim other.compaction owner others.held stand may) end ended.0

pub returns-clause-own : goal.returns-clause-own
returns-clause-own g c l job out = out_own g.O.Operator.meaning job l out

pub returns-clause-refused : goal.returns-clause-refused
returns-clause-refused g c l job error owner out refused =
    c.own_compactions_are_refused_for_ids_alone.ensures.refused out.start (owner_in l) job.claim out.events error out.start_is owner out.held_first out.held out.follow out.version out.runs
    (subst (λ (made : Compaction). IsRefused l.version (stretch_of (owner_in l) job.claim) made error) out.compaction refused)

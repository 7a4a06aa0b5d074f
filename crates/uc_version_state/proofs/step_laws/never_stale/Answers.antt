use Rattle.std.proofs.Common.{◌≡◌, ℕ, List, ap, sym, subst, arith}
use Rattle.uc_oper.specs.Operation.{Operation, IsLawful}
use Rattle.uc_claims.proofs.Times.{times-from_Contains}
use Rattle.uc_version_state.specs.Versions.{PlacedRun, IsVersion, ids_of}
use Rattle.uc_version_state.specs.Openings.{Opening, MayOpen, opened}
use Rattle.uc_version_state.specs.Installs.{standing}
use Rattle.uc_version_state.specs.Machine.{Checked, present, phase_of, slots_held}
use Rattle.uc_version_state.specs.Courses.{Course, IsPossible, started, machine_after}
use Rattle.uc_version_state.proofs.Placing.{FlushesAreRuns}
use Rattle.uc_version_state.proofs.Counted.{two_of}
use Rattle.uc_version_state.proofs.Noted.{standing_noted}
use Rattle.uc_version_state.proofs.StepsKept.{Holds, Keeps, keeps_first, keeps_along, may_install}
use Rattle.uc_version_state.proofs.step_laws.never_stale.Goals as goal

kept : FlushesAreRuns → ((o : Opening) → MayOpen o → IsVersion (opened o)) → (m : Operation) (course : Course) → IsLawful m → IsPossible m course → Keeps m (machine_after course)
kept is_run opens m course laws is =
    keeps_along is_run m laws (started course.opening course.compactors) course.steps
    (keeps_first m course.opening course.compactors (record { opens = is.opens; follow = tt }) (opens course.opening is.opens)) is.come

there : (is_run : FlushesAreRuns) (opens : (o : Opening) → MayOpen o → IsVersion (opened o)) (m : Operation) (course : Course) (c : ℕ) (noted : List PlacedRun) → IsLawful m → IsPossible m course → phase_of c (machine_after course) ≡ Checked noted →
    standing (ids_of noted) (present (machine_after course)).runs ≡ noted
there is_run opens m course c noted laws is checked =
    let keeps = kept is_run opens m course laws is in
    let holds = subst (Holds (present (machine_after course))) checked (keeps.each c) in
    standing_noted (present (machine_after course)) noted keeps.version holds.0 holds.1

pub returns : goal.returns
returns g = record {
  in_place = λ m course c noted laws is checked. ap ids_of (there g.flushed_writes_are_a_run.ensures g.opening_gives_a_version.ensures m course c noted laws is checked);
  same = λ m course c noted laws is checked. there g.flushed_writes_are_a_run.ensures g.opening_gives_a_version.ensures m course c noted laws is checked;
  apart = λ m course c other slot laws is apart has again.
      let s = machine_after course in
      let keeps = kept g.flushed_writes_are_a_run.ensures g.opening_gives_a_version.ensures m course laws is in
      let both = two_of slot s.phases c other (λ e. apart (sym e)) in
      let here = times-from_Contains slot (slots_held (phase_of c s)) has in
      let there_too = times-from_Contains slot (slots_held (phase_of other s)) again in
      let e = keeps.counted slot in
      let le = keeps.small slot in
      omega (arith, both, here, there_too, e, le);
  may_happen = λ m course c noted i laws is checked made.
      let keeps = kept g.flushed_writes_are_a_run.ensures g.opening_gives_a_version.ensures m course laws is in
      let holds = subst (Holds (present (machine_after course))) checked (keeps.each c) in
      may_install m (present (machine_after course)) keeps.version noted holds.0 holds.1 i made;
  legal = λ m course laws is. (kept g.flushed_writes_are_a_run.ensures g.opening_gives_a_version.ensures m course laws is).legal;
}

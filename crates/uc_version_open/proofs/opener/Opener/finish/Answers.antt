use Rattle.std.proofs.Common.{rules, ◌≡◌, sym, ◌∙◌, subst, true, Some, None}
use Rattle.uc_version_state.specs.Options.{are_good}
use Rattle.uc_version_state.specs.Versions.{IsVersion}
use Rattle.uc_version_state.specs.Openings.{Opening}
use Rattle.uc_version_open.specs.Refusal.{first_ahead}
use Rattle.uc_version_open.specs.Progress.{progress_of}
use Rattle.uc_version_open.specs.HeldProgress.{progress}
use Rattle.uc_version_open.proofs.Ended.{ends_opened}
use Rattle.uc_version_open.proofs.Refused.{none_refused}
use Rattle.uc_version_open.proofs.opener.Opener.finish.Goals as goal

pub version_of-requires-clause-version : goal.version_of-requires-clause-version
version_of-requires-clause-version g c =
    let came = c.self.invariant in
    let inside = c.self.inside in
    let keeps = c.args.keeps.now in
    let memtables = c.in-Some-memtables.memtables in
    let o : Opening = record { writes = came.writes; keeps = keeps; options = inside.options } in
    let good : are_good inside.options ≡ true = search rules in
    let none : first_ahead inside.last keeps ≡ None = search rules in
    let held : inside.memtables ≡ Some memtables = c.in-Some-memtables.is in
    subst IsVersion (sym (ends_opened o (progress inside) memtables came.is held))
    (c.opening_gives_a_version.ensures o ((c.no_refusal_is_leave_to_open.ensures o came.rising).0 (none_refused o (progress inside) came.is memtables good none held)))

pub returns-clause-ok : goal.returns-clause-ok
returns-clause-ok g c = λ options writes rises e.
    let inside = c.self.inside in
    let keeps = c.args.keeps.now in
    let memtables = c.in-Some-memtables.memtables in
    let o : Opening = record { writes = writes; keeps = keeps; options = options } in
    let good : are_good inside.options ≡ true = search rules in
    let none : first_ahead inside.last keeps ≡ None = search rules in
    let held : inside.memtables ≡ Some memtables = c.in-Some-memtables.is in
    let is : progress inside ≡ progress_of options writes = c.self.view_is ∙ e in
    (c.in_ok-version_of.ensures ∙ ends_opened o (progress inside) memtables is held, none_refused o (progress inside) is memtables good none held)

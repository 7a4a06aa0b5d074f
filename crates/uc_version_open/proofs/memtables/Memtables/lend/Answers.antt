use Rattle.std.proofs.Common.{rules, ◌≡◌, ◌++◌, ◌∙◌, List, map, sym, subst, ap}
use Rattle.uc_run_entry.specs.Run.{Contents}
use Rattle.uc_run.specs.Flush.{flushed}
use Rattle.uc_version_open.specs.Lending.{StandsAt}
use Rattle.uc_version_open.specs.Progress.{Flushing}
use Rattle.uc_version_open.proofs.Placed.{same_runs, stands_behind}
use Rattle.uc_version_open.proofs.memtables.Memtables.lend.Goals as goal

pub returns-clause-kept : goal.returns-clause-kept
returns-clause-kept c =
    let held = c.self.inside in
    let lent = c.in_ok-lent in
    let same : (held.runs.items ++ map flushed lent.lent) ++ map flushed lent.full.items ≡ (held.runs.items ++ map flushed held.lent) ++ map flushed held.full.items
    = same_runs held.runs.items held.lent held.full.items lent.lent lent.full.items lent.ensures in
    (λ i. record { runs = same i; newest = held.newest }) ∙ c.self.view_is

pub returns-clause-loan : goal.returns-clause-loan
returns-clause-loan c =
    let held = c.self.inside in
    let lent = c.in_ok-lent in
    let same = same_runs held.runs.items held.lent held.full.items lent.lent lent.full.items lent.ensures in
    let runs = ap (λ (f : Flushing). f.runs) c.self.view_is in
    subst (λ (part : List Contents). StandsAt c.len-older.result part c.args.self.runs) (ap (map flushed) (sym c.in_ok-memtables.ensures))
    (subst (StandsAt c.len-older.result (map flushed lent.lent)) (same ∙ runs)
    (stands_behind c.len-older.result held.runs.items (map flushed lent.lent) (map flushed lent.full.items) (search rules)))

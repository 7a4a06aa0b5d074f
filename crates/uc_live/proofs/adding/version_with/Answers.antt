use Rattle.std.proofs.Common.{ℕ, [], ◌∷◌, sym, subst}
use Rattle.std.specs.Arc.{arc_value}
use Rattle.uc_run_entry.specs.Run.{Contents}
use Rattle.uc_version_state.specs.Versions.{IsVersion}
use Rattle.uc_version_state.specs.Feeds.{with_runs}
use Rattle.uc_live.proofs.Added.{added_is_version}
use Rattle.uc_live.proofs.adding.version_with.Goals as goal

pub with_run-requires : goal.with_run-requires
with_run-requires c =
    let v = c.args.version.now in
    let r = c.args.run in
    subst (λ (n : ℕ). IsVersion (with_runs (arc_value c.in_ok-run.run' ∷ []) n v)) (sym c.high_seq-last.ensures)
    (subst (λ (x : Contents). IsVersion (with_runs (x ∷ []) r.high v)) (sym c.in_ok-run.ensures.ok)
    (added_is_version v r c.recall.ensures c.recall-2.ensures c.requires.above c.requires.place))

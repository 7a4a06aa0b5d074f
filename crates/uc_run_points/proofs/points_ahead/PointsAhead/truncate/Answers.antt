use Rattle.std.proofs.Common.{List, take, sym, ap, ◌∙◌}
use Rattle.uc_run_entry.specs.declared.entry.Entry.{Entry}
use Rattle.uc_run_points.specs.Spelling.{entries_ahead}
use Rattle.uc_run_points.proofs.Walked.{take-entries_ahead}
use Rattle.uc_run_points.proofs.points_ahead.PointsAhead.truncate.Goals as goal

pub returns : goal.returns
returns c =
    let s = c.self.inside in
    ap (λ n. entries_ahead n s.first s.behind.now) c.min-self-inside.ensures
    ∙ sym (take-entries_ahead c.args.count s.count s.first s.behind.now)
    ∙ ap (λ (es : List Entry). take c.args.count es) c.self.view_is

use Rattle.std.proofs.Common.{List, length, sym, ap, ◌∙◌}
use Rattle.uc_run_entry.specs.declared.entry.Entry.{Entry}
use Rattle.uc_run_points.proofs.Walked.{length-entries_ahead}
use Rattle.uc_run_points.proofs.points_ahead.PointsAhead.len.Goals as goal

pub returns : goal.returns
returns c =
    let s = c.self.inside in
    sym (length-entries_ahead s.first s.behind.now s.count) ∙ ap (λ (es : List Entry). length es) c.self.view_is

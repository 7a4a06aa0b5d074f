use Rattle.std.proofs.Common.{List, length, sym, ap, ◌∙◌}
use Rattle.uc_run_entry.specs.declared.entry.Entry.{Entry}
use Rattle.uc_run.specs.BackCursors.{end_place}
use Rattle.uc_run.proofs.LastKey.{all_counted}
use Rattle.uc_run.proofs.back_cursor.end_in.Goals as goal

pub returns-in-None-clause-place : goal.returns-in-None-clause-place
returns-in-None-clause-place c =
    let points = c.args.run.now.points in
    c.len.ensures.count ∙ ap (λ (es : List Entry). length es) c.entries-points.ensures ∙ all_counted points ∙ ap (end_place points) (sym c.in-None.is)

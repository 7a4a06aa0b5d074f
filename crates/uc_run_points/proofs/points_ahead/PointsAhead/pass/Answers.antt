use Rattle.std.proofs.Common.{List, drop, ap, ◌∙◌}
use Rattle.std.proofs.lemmas.List.{drop-drop}
use Rattle.uc_run_entry.specs.declared.entry.Entry.{Entry}
use Rattle.uc_run_points.proofs.points_ahead.PointsAhead.pass.Goals as goal

pub loop-preserved : goal.loop-preserved
loop-preserved c = c.step.ensures ∙ ap (λ (es : List Entry). drop 1 es) c.loop.invariant ∙ drop-drop 1 c.loop.counter c.args.self.now

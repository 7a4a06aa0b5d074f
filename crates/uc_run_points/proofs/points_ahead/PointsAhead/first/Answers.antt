use Rattle.std.proofs.Common.{List, Some, sym, ap, ◌∙◌, arith}
use Rattle.std.specs.List.{slice_get}
use Rattle.uc_run_entry.specs.declared.entry.Entry.{Entry}
use Rattle.uc_run_points.proofs.Walked.{at_end, some_ahead}
use Rattle.uc_run_points.proofs.points_ahead.PointsAhead.first.Goals as goal

pub returns-then-self-eq0 : goal.returns-then-self-eq0
returns-then-self-eq0 c =
    let s = c.self.inside in
    ap (λ (es : List Entry). slice_get es 0) (sym (at_end s.first s.behind.now s.count c.if-self-eq0.true) ∙ c.self.view_is)

pub returns : goal.returns
returns c =
    let s = c.self.inside in
    let some = some_ahead s.first s.behind.now s.count (omega (arith, c.if-self-eq0.false)) in
    ap (λ (e : Entry). Some e) c.again.ensures ∙ ap (λ (es : List Entry). slice_get es 0) (sym some ∙ c.self.view_is)

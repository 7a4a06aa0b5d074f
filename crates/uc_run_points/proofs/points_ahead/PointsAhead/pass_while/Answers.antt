use Rattle.std.proofs.Common.{◌≡◌, true, List, Some, drop, sym, ap, ◌∙◌}
use Rattle.std.specs.List.{slice_get}
use Rattle.std.proofs.lemmas.List.{drop-drop}
use Rattle.uc_run_entry.specs.declared.entry.Entry.{Entry}
use Rattle.uc_run_points.proofs.Searched.{first_at, one_more}
use Rattle.uc_run_points.proofs.points_ahead.PointsAhead.pass_while.Goals as goal

pub loop-count-preserved : goal.loop-count-preserved
loop-count-preserved g c =
    let test = g.T.PointTest.passing c.args.test.now in
    let count = c.loop-count.count in
    let all = c.args.self.now in
    let point : Entry = c.in-Some.point in
    let here = c.loop-count.invariant.ahead in
    let next : slice_get (drop count all) 0 ≡ Some point = ap (λ (es : List Entry). slice_get es 0) (sym here) ∙ sym c.first.ensures ∙ c.in-Some.is in
    record {
      ahead = c.step.ensures ∙ ap (λ (es : List Entry). drop 1 es) here ∙ drop-drop 1 count all;
      before = one_more (λ p. test p ≡ true) all count point c.loop-count.invariant.before (first_at all count point next) (sym c.passes.ensures ∙ c.if-passes.true);
    }

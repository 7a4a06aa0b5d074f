use Rattle.std.proofs.Common.{◌+◌, List, length, sym, ap, ◌∙◌, subst, arith}
use Rattle.std.proofs.lemmas.List.{length-drop}
use Rattle.uc_run_entry.specs.declared.entry.Entry.{Entry}
use Rattle.uc_run_points.proofs.Sliced.{IsPart, rest_part}
use Rattle.uc_run_points.proofs.point_slice.PointSlice.pass_while.Goals as goal

pub invariant_of-self : goal.invariant_of-self
invariant_of-self g c =
    let s = c.self.inside in
    let count = c.pass_while-count.result in
    let e = c.pass_while-count.ensures in
    let long = ap (λ (es : List Entry). length es) e.rest ∙ length-drop count s.ahead in
    record {
      are = subst (λ (es : List Entry). IsPart s.points.now es (s.begin + count)) (sym e.rest) (rest_part s.points.now s.ahead s.begin c.self.invariant.are count e.bound);
      bound = omega (arith, long, e.bound, c.self.invariant.bound);
    }

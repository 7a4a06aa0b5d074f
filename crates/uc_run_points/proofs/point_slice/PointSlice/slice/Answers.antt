use Rattle.std.proofs.Common.{◌≡◌, ◌+◌, ◌-◌, ◌≤◌, List, length, take, drop, sym, ap, ◌∙◌, subst, arith}
use Rattle.uc_run_entry.specs.declared.entry.Entry.{Entry}
use Rattle.uc_run_points.proofs.Sliced.{IsPart, slice_part, length-slice}
use Rattle.uc_run_points.proofs.point_slice.PointSlice.slice.Goals as goal

pub invariant_of-result : goal.invariant_of-result
invariant_of-result c =
    let s = c.self.inside in
    let begin = c.args.begin in
    let end = c.args.end in
    let within = subst (λ (es : List Entry). end ≤ length es) (sym c.self.view_is) c.requires.within in
    let made : c.truncate.new.self ≡ take (end - begin) (drop begin s.ahead) =
    c.truncate.ensures ∙ ap (λ (es : List Entry). take (end - begin) es) (c.from-ahead.ensures ∙ ap (λ (es : List Entry). drop begin es) (sym c.self.view_is)) in
    let long = ap (λ (es : List Entry). length es) made ∙ length-slice s.ahead begin end c.requires.order within in
    record {
      are = subst (λ (es : List Entry). IsPart s.points.now es (s.begin + begin)) (sym made) (slice_part s.points.now s.ahead s.begin c.self.invariant.are begin end c.requires.order within);
      bound = omega (arith, long, within, c.requires.order, c.self.invariant.bound);
    }

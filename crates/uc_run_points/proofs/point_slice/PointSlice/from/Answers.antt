use Rattle.std.proofs.Common.{◌≤◌, ◌-◌, List, length, take, drop, sym, ap, ◌∙◌, subst}
use Rattle.uc_run_entry.specs.declared.entry.Entry.{Entry}
use Rattle.uc_run_points.proofs.Sliced.{rest_there}
use Rattle.uc_run_points.proofs.point_slice.PointSlice.from.Goals as goal

pub returns : goal.returns
returns c =
    let s = c.self.inside in
    let place = c.args.place in
    let le = subst (λ (es : List Entry). place ≤ length es) (sym c.self.view_is) c.requires in
    c.truncate.ensures
    ∙ ap (λ n. take (n - place) c.from-ahead.result) c.len.ensures
    ∙ ap (λ (es : List Entry). take (length s.ahead - place) es) c.from-ahead.ensures
    ∙ rest_there s.points.now s.ahead s.begin c.self.invariant.are place le
    ∙ ap (λ (es : List Entry). drop place es) c.self.view_is

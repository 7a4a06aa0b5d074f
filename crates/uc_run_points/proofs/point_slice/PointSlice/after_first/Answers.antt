use Rattle.std.proofs.Common.{◌≡◌, ◌+◌, ◌≤◌, Bool, true, false, List, [], ◌∷◌, length, drop, refl, sym, ap, ◌∙◌, subst, arith}
use Rattle.std.proofs.lemmas.Bool.{false≢true}
use Rattle.std.proofs.lemmas.List.{length-drop}
use Rattle.uc_run_entry.specs.declared.entry.Entry.{Entry}
use Rattle.uc_run_points.proofs.Sliced.{IsPart, rest_part}
use Rattle.uc_run_points.proofs.point_slice.PointSlice.after_first.Goals as goal

some_there : (es : List Entry) (b : Bool) → (es ≡ [] → b ≡ true) → b ≡ false → 1 ≤ length es
some_there [] b to e = absurd (false≢true (sym e ∙ to refl))
some_there (x ∷ xs) b to e = omega arith

pub invariant_of-result : goal.invariant_of-result
invariant_of-result c =
    let s = c.self.inside in
    let some : 1 ≤ length s.ahead = some_there s.ahead c.is_empty.result (λ none. c.is_empty.ensures.1 (sym c.self.view_is ∙ none)) c.if-is_empty.false in
    let made = c.step.ensures ∙ ap (λ (es : List Entry). drop 1 es) c.again-ahead.ensures in
    let long = ap (λ (es : List Entry). length es) made ∙ length-drop 1 s.ahead in
    record {
      are = subst (λ (es : List Entry). IsPart s.points.now es (s.begin + 1)) (sym made) (rest_part s.points.now s.ahead s.begin c.self.invariant.are 1 some);
      bound = omega (arith, long, some, c.self.invariant.bound);
    }

use Rattle.std.proofs.Common.{◌≡◌, ◌+◌, ◌<◌, ◌≤◌, true, false, List, Some, length, drop, sym, ap, ◌∙◌, subst, arith}
use Rattle.std.specs.Prelude.{not, ◌&&◌}
use Rattle.std.specs.List.{slice_get, AllWithin, HoldsAt}
use Rattle.uc_run_entry.specs.declared.entry.Entry.{Entry}
use Rattle.uc_run_entry.specs.Lookup.{points_effect}
use Rattle.uc_run_entry.specs.Overwriting.{overwrites}
use Rattle.uc_run.specs.Places.{is_on}
use Rattle.uc_run.proofs.Lasting.{with_next, without_next, at_end, other_next}
use Rattle.uc_run.proofs.Walking.{slice_front}
use Rattle.uc_run.proofs.lookup.lasting.Goals as goal
use Rattle.uc_run.proofs.lookup.lasting.Goals.{in_default-via-in-Some+else-is_on, in_default-via-in_default}

pub returns-in-Some : goal.returns-in-Some
returns-in-Some c m effect =
    let points = c.args.points.now in
    let test = is_on c.args.key.now c.args.above in
    let count = c.pass_while-count.result in
    let e = c.pass_while-count.ensures in
    let all = c.ahead-ahead.ensures in
    let le = subst (λ (es : List Entry). count ≤ length es) all e.bound in
    let before = subst (λ (es : List Entry). AllWithin (λ p. (not (overwrites p) && test p) ≡ true) es 0 count) all e.before in
    let there = λ (l : count < length points).
    subst (λ (es : List Entry). HoldsAt (λ p. (not (overwrites p) && test p) ≡ false) es count) all (e.there (omega (arith, l, c.len.ensures.count)) (subst (λ (es : List Entry). count < length es) (sym all) l)) in
    let next : slice_get (drop count points) 0 ≡ Some c.in-Some.point = ap (λ (es : List Entry). slice_get es 0) (sym (e.rest ∙ ap (λ (es : List Entry). drop count es) all)) ∙ sym c.first.ensures ∙ c.in-Some.is in
    ap (points_effect m effect) (c.slice.ensures ∙ slice_front (count + 1) points)
    ∙ with_next test points c.requires count le before m effect c.in-Some.point next (sym c.is_on.ensures ∙ c.if-is_on.true) there

pub returns-in_default : goal.returns-in_default
returns-in_default c m effect =
    let points = c.args.points.now in
    let test = is_on c.args.key.now c.args.above in
    let count = c.pass_while-count.result in
    let e = c.pass_while-count.ensures in
    let all = c.ahead-ahead.ensures in
    let le = subst (λ (es : List Entry). count ≤ length es) all e.bound in
    let before = subst (λ (es : List Entry). AllWithin (λ p. (not (overwrites p) && test p) ≡ true) es 0 count) all e.before in
    let first = ap (λ (es : List Entry). slice_get es 0) (sym (e.rest ∙ ap (λ (es : List Entry). drop count es) all)) ∙ sym c.first.ensures in
    let there : count < length points → HoldsAt (λ (p : Entry). test p ≡ false) points count =
    elim c.in_default.branch [
      | in_default-via-in-Some+else-is_on w ↦ (λ lt. other_next test points count w.in-Some.point (first ∙ w.in-Some.is) (sym w.is_on.ensures ∙ w.if-is_on.false))
      | in_default-via-in_default w ↦ at_end (λ (p : Entry). test p ≡ false) points count (first ∙ w.in_default.is)
    ] in
    ap (points_effect m effect) (c.slice-in_default.ensures ∙ slice_front count points)
    ∙ without_next test points c.requires count le before m effect there

use Rattle.std.proofs.Common.{rules, ◌≡◌, ◌+◌, ◌-◌, ◌<◌, ◌≤◌, max, true, false, List, [], length, drop, refl, sym, ap, ◌∙◌, subst, arith}
use Rattle.std.specs.List.{AllWithin, HoldsAt}
use Rattle.std.proofs.lemmas.List.{drop-drop, length-drop}
use Rattle.uc_run_entry.specs.declared.entry.Entry.{Entry}
use Rattle.uc_run_entry.specs.declared.entry.What.TheVariants.{Delete}
use Rattle.uc_run_entry.specs.Seek.{is_passed, seek_place}
use Rattle.uc_run.specs.Places.{place_of}
use Rattle.uc_run.proofs.Passing.{walk_within, walk_ends, seek_bound, seek_point}
use Rattle.uc_run.proofs.fences.pass_before.Goals as goal

any : Entry
any = record { key = []; seq = 0; what = Delete }

pub returns-then-pass_while-eq-FEW_POINTS : goal.returns-then-pass_while-eq-FEW_POINTS
returns-then-pass_while-eq-FEW_POINTS c =
    let points = c.args.points.now in
    let low = c.args.low.now in
    let strict = c.args.strict in
    let test = λ (p : Entry). is_passed low strict p.key in
    let place = place_of points c.args.ahead.now in
    let end = seek_place points low strict in
    let n = c.pass_while.result in
    let e = c.pass_while.ensures in
    let from = c.requires.rest in
    let many : n ≡ 8 = search rules in
    let le : n ≤ length (drop place points) = subst (λ (es : List Entry). n ≤ length es) from e.bound in
    let long : length (drop place points) ≡ length points - place = length-drop place points in
    let within : place + n ≤ length points = omega (arith, le, long, many) in
    let before = subst (λ (es : List Entry). AllWithin (λ p. test p ≡ true) es 0 n) from e.before in
    let above = walk_within test points place n end within (seek_point points low strict c.requires.sorted end refl) before any in
    let behind : end ≡ max place end = omega (arith, above, many) in
    c.found_by_fences.ensures ∙ ap (λ k. drop k points) behind

pub returns-else-pass_while-eq-FEW_POINTS : goal.returns-else-pass_while-eq-FEW_POINTS
returns-else-pass_while-eq-FEW_POINTS c =
    let points = c.args.points.now in
    let low = c.args.low.now in
    let strict = c.args.strict in
    let test = λ (p : Entry). is_passed low strict p.key in
    let place = place_of points c.args.ahead.now in
    let end = seek_place points low strict in
    let n = c.pass_while.result in
    let e = c.pass_while.ensures in
    let from = c.requires.rest in
    let few : n < 8 = omega (arith, e.most, c.if-pass_while-eq-FEW_POINTS.false) in
    let le : n ≤ length (drop place points) = subst (λ (es : List Entry). n ≤ length es) from e.bound in
    let long : length (drop place points) ≡ length points - place = length-drop place points in
    let within : place + n ≤ length points = omega (arith, le, long) in
    let before = subst (λ (es : List Entry). AllWithin (λ p. test p ≡ true) es 0 n) from e.before in
    let there = λ (l : place + n < length points).
    subst (λ (es : List Entry). HoldsAt (λ p. test p ≡ false) es n) from (e.there few (subst (λ (es : List Entry). n < length es) (sym from) (omega (arith, l, long)))) in
    let ends = walk_ends test points place n end within (seek_bound points low strict end refl) (seek_point points low strict c.requires.sorted end refl) before there any in
    e.rest ∙ ap (λ (es : List Entry). drop n es) from ∙ drop-drop n place points ∙ ap (λ k. drop k points) ends

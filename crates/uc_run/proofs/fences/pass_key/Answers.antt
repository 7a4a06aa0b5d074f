use Rattle.std.proofs.Common.{◌≡◌, ◌+◌, ◌-◌, ◌<◌, ◌≤◌, max, true, List, [], get_or, length, drop, refl, sym, ap, ◌∙◌, subst, arith}
use Rattle.std.specs.List.{AllWithin}
use Rattle.std.proofs.lemmas.List.{drop-drop, get_or-drop, length-drop}
use Rattle.uc_run_entry.specs.declared.entry.Entry.{Entry}
use Rattle.uc_run_entry.specs.declared.entry.What.TheVariants.{Delete}
use Rattle.uc_run_entry.specs.Seek.{is_passed, seek_place}
use Rattle.uc_run.specs.Places.{place_of}
use Rattle.uc_run.proofs.OnKey.{passed_on}
use Rattle.uc_run.proofs.Passing.{walk_within, walk_ends, seek_bound, seek_point}
use Rattle.uc_run.proofs.Rests.{place_back}
use Rattle.uc_run.proofs.fences.pass_key.Goals as goal

any : Entry
any = record { key = []; seq = 0; what = Delete }

pub returns-then-passed-eq0 : goal.returns-then-passed-eq0
returns-then-passed-eq0 c =
    let points = c.args.points.now in
    let key = c.args.key.now in
    let test = λ (p : Entry). is_passed key true p.key in
    let place = place_of points c.args.ahead.now in
    let end = seek_place points key true in
    let n = c.pass_while-passed.result in
    let e = c.pass_while-passed.ensures in
    let from = c.requires.rest in
    let le : n ≤ length (drop place points) = subst (λ (es : List Entry). n ≤ length es) from e.bound in
    let long : length (drop place points) ≡ length points - place = length-drop place points in
    let within : place + n ≤ length points = omega (arith, le, long) in
    let before : AllWithin (λ p. test p ≡ true) (drop place points) 0 n =
    subst (λ (es : List Entry). AllWithin (λ p. test p ≡ true) es 0 n) from (λ k d low l. passed_on key (get_or c.args.ahead.now k d) (e.before k d low l)) in
    let above : place + n ≤ max place end = walk_within test points place n end within (seek_point points key true c.requires.sorted end refl) before any in
    let now : c.pass_while-passed.new.self ≡ drop (place + n) points = e.rest ∙ ap (λ (es : List Entry). drop n es) from ∙ drop-drop n place points in
    let there : place_of points c.pass_while-passed.new.self ≡ place + n = ap (place_of points) now ∙ place_back points (place + n) within in
    let same : max (place_of points c.pass_while-passed.new.self) end ≡ max place end = omega (arith, there, above) in
    c.pass_before.ensures ∙ ap (λ k. drop k points) same

pub returns-else-is_first_passed : goal.returns-else-is_first_passed
returns-else-is_first_passed c =
    let points = c.args.points.now in
    let key = c.args.key.now in
    let test = λ (p : Entry). is_passed key true p.key in
    let place = place_of points c.args.ahead.now in
    let end = seek_place points key true in
    let n = c.pass_while-passed.result in
    let e = c.pass_while-passed.ensures in
    let from = c.requires.rest in
    let le : n ≤ length (drop place points) = subst (λ (es : List Entry). n ≤ length es) from e.bound in
    let long : length (drop place points) ≡ length points - place = length-drop place points in
    let within : place + n ≤ length points = omega (arith, le, long) in
    let before : AllWithin (λ p. test p ≡ true) (drop place points) 0 n =
    subst (λ (es : List Entry). AllWithin (λ p. test p ≡ true) es 0 n) from (λ k d low l. passed_on key (get_or c.args.ahead.now k d) (e.before k d low l)) in
    let now : c.pass_while-passed.new.self ≡ drop (place + n) points = e.rest ∙ ap (λ (es : List Entry). drop n es) from ∙ drop-drop n place points in
    let there = λ (l : place + n < length points) (d : Entry).
    let some : 0 < length c.pass_while-passed.new.self = omega (arith, l, ap length now, length-drop (place + n) points) in
    let same : get_or c.pass_while-passed.new.self 0 d ≡ get_or (drop place points) n d =
    ap (λ (es : List Entry). get_or es 0 d) now ∙ get_or-drop (place + n) points 0 d ∙ ap (λ k. get_or points k d) (omega arith) ∙ sym (get_or-drop place points n d) in
    sym (ap test same) ∙ sym (c.is_first_passed.ensures some d) ∙ c.if-is_first_passed.false in
    let ends = walk_ends test points place n end within (seek_bound points key true end refl) (seek_point points key true c.requires.sorted end refl) before there any in
    now ∙ ap (λ k. drop k points) ends

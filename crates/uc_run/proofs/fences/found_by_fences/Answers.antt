use Rattle.std.proofs.Common.{rules, ◌≡◌, ◌+◌, ◌-◌, ◌*◌, ◌<◌, ◌≤◌, true, false, List, [], length, drop, refl, sym, ap, ◌∙◌, subst, arith}
use Rattle.std.specs.List.{AllWithin, HoldsAt}
use Rattle.std.proofs.lemmas.List.{drop-drop, length-drop}
use Rattle.uc_run_entry.specs.declared.entry.Entry.{Entry}
use Rattle.uc_run_entry.specs.declared.entry.What.TheVariants.{Delete}
use Rattle.uc_run_entry.specs.Order.{entry_cmp}
use Rattle.uc_run_entry.specs.Seek.{is_passed, seek_place}
use Rattle.uc_run_entry.proofs.Partitions.{partitioned, count-front}
use Rattle.uc_run.specs.Fences.{AreAhead}
use Rattle.uc_run.proofs.Fenced.{none_passed, begin_within, before_block}
use Rattle.uc_run.proofs.Order.{passed_before}
use Rattle.uc_run.proofs.Passing.{walk_within, walk_ends, seek_bound, seek_point}
use Rattle.uc_run.proofs.fences.found_by_fences.Goals as goal

pub returns-then-passed-eq0 : goal.returns-then-passed-eq0
returns-then-passed-eq0 c =
    let points = c.args.points.now in
    let test = is_passed c.args.low.now c.args.strict in
    let parted = partitioned (λ p. test p.key) entry_cmp (passed_before c.args.low.now c.args.strict) points c.requires.sorted in
    let none : c.fences_passed-passed.result ≡ 0 = search rules in
    let point = none_passed test points parted (subst (AreAhead points c.args.low.now c.args.strict) none c.fences_passed-passed.ensures.after) in
    c.as_slice.ensures ∙ ap (λ n. drop n points) (count-front (λ p. test p.key) points 0 (omega arith) point)

pub overflow_mul-passed : goal.overflow_mul-passed
overflow_mul-passed c =
    omega (arith, c.fences_passed-passed.ensures.bound, c.len-count.ensures.count, c.len-count.ensures.bound)

pub returns : goal.returns
returns c =
    let points = c.args.points.now in
    let low = c.args.low.now in
    let strict = c.args.strict in
    let test = is_passed low strict in
    let passed = c.fences_passed-passed.result in
    let some : 0 < passed = search rules in
    let begin = (passed - 1) * 4 in
    let parted = partitioned (λ p. test p.key) entry_cmp (passed_before low strict) points c.requires.sorted in
    let lt = begin_within test points parted passed some c.fences_passed-passed.ensures.bound c.fences_passed-passed.ensures.before in
    let end = seek_place points low strict in
    let bound : end ≤ length points = seek_bound points low strict end refl in
    let point = seek_point points low strict c.requires.sorted end refl in
    let any : Entry = record { key = []; seq = 0; what = Delete } in
    let from : c.slice_from-found.result ≡ drop begin points = c.slice_from-found.ensures in
    let count = c.len-count.ensures.count in
    let n = c.pass_while.result in
    let e = c.pass_while.ensures in
    let le : n ≤ length (drop begin points) = subst (λ (es : List Entry). n ≤ length es) from e.bound in
    let long : length (drop begin points) ≡ length points - begin = length-drop begin points in
    let within : begin + n ≤ length points = omega (arith, le, long, lt) in
    let before = subst (λ (es : List Entry). AllWithin (λ p. test p.key ≡ true) es 0 n) from e.before in
    let there = λ (l : begin + n < length points).
    subst (λ (es : List Entry). HoldsAt (λ p. test p.key ≡ false) es n) from
    (e.there (omega (arith, l, count)) (subst (λ (es : List Entry). n < length es) (sym from) (omega (arith, l, long)))) in
    let ends = walk_ends (λ (p : Entry). test p.key) points begin n end within bound point before there any in
    let above = walk_within (λ (p : Entry). test p.key) points 0 begin end (omega (arith, lt)) point (before_block test points parted passed some c.fences_passed-passed.ensures.bound c.fences_passed-passed.ensures.before) any in
    let there_is : begin + n ≡ end = omega (arith, ends, above) in
    e.rest ∙ ap (λ (es : List Entry). drop n es) from ∙ drop-drop n begin points ∙ ap (λ k. drop k points) there_is

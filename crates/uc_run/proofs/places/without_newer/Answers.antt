use Rattle.std.proofs.Common.{◌≡◌, ◌<◌, ◌≤◌, true, false, List, length, drop, sym, ap, ◌∙◌, subst, arith}
use Rattle.std.specs.List.{AllWithin, HoldsAt}
use Rattle.uc_run_points.proofs.Searched.{passed_point}
use Rattle.uc_run_entry.specs.declared.entry.Entry.{Entry}
use Rattle.uc_run_entry.specs.Order.{entry_cmp}
use Rattle.uc_run_entry.proofs.Partitions.{partitioned, count-front}
use Rattle.uc_run.specs.Places.{is_newer}
use Rattle.uc_run.proofs.Order.{newer_before}
use Rattle.uc_run.proofs.places.without_newer.Goals as goal

pub returns-then-pass_while-eq-FEW_POINTS : goal.returns-then-pass_while-eq-FEW_POINTS
returns-then-pass_while-eq-FEW_POINTS c =
    c.split_at-behind.ensures.back ∙ ap (λ k. drop k c.args.points.now) c.count_newer.ensures.count

pub returns : goal.returns
returns c =
    let points = c.args.points.now in
    let test = is_newer c.args.key.now c.args.at in
    let n = c.pass_while.result in
    let e = c.pass_while.ensures in
    let few : n < 16 = omega (arith, e.most, c.if-pass_while-eq-FEW_POINTS.false) in
    let same : c.again-rest.result ≡ points = c.again-rest.ensures in
    let le = subst (λ (es : List Entry). n ≤ length es) same e.bound in
    let before = subst (λ (es : List Entry). AllWithin (λ p. test p ≡ true) es 0 n) same e.before in
    let there = λ (l : n < length points). subst (λ (es : List Entry). HoldsAt (λ p. test p ≡ false) es n) same (e.there few (subst (λ (es : List Entry). n < length es) (sym same) l)) in
    let parted = partitioned test entry_cmp (newer_before c.args.key.now c.args.at) points c.requires in
    e.rest ∙ ap (λ (es : List Entry). drop n es) same
    ∙ ap (λ k. drop k points) (count-front test points n le (before, passed_point test points n parted le there))

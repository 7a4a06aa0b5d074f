use Rattle.std.proofs.Common.{◌≤◌, List, length, refl, ap, ◌∙◌, arith}
use Rattle.std.proofs.lemmas.List.{length-drop}
use Rattle.uc_run_entry.specs.declared.entry.Entry.{Entry}
use Rattle.uc_run_entry.specs.Seek.{seek_place}
use Rattle.uc_run.proofs.Passing.{seek_bound}
use Rattle.uc_run.proofs.fences.seek_by_fences.Goals as goal

pub overflow_sub-result : goal.overflow_sub-result
overflow_sub-result c =
    let points = c.args.points.now in
    let end = seek_place points c.args.low.now c.args.strict in
    let long = ap (λ (es : List Entry). length es) c.found_by_fences.ensures ∙ length-drop end points in
    omega (arith, long, c.len.ensures.count, c.len-2.ensures.count)

pub returns : goal.returns
returns c =
    let points = c.args.points.now in
    let end = seek_place points c.args.low.now c.args.strict in
    let le : end ≤ length points = seek_bound points c.args.low.now c.args.strict end refl in
    let long = ap (λ (es : List Entry). length es) c.found_by_fences.ensures ∙ length-drop end points in
    omega (arith, le, long, c.len.ensures.count, c.len-2.ensures.count)

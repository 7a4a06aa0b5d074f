use Rattle.std.proofs.Common.{◌≡◌, ◌*◌, ◌<◌, Some, length, get_or, sym, ap, ◌∙◌, arith}
use Rattle.std.specs.List.{slice_get}
use Rattle.std.proofs.lemmas.Option.{get_or_from_slice_get, slice_get-get_or, none-some}
use Rattle.uc_run_entry.specs.declared.entry.Entry.{Entry}
use Rattle.uc_run.proofs.Fenced.{any, has_point}
use Rattle.uc_run.proofs.fences.fence_at.Goals as goal

pub overflow_mul-block : goal.overflow_mul-block
overflow_mul-block c = omega (arith, has_point c.args.points.now c.args.block c.requires, c.len.ensures.count, c.len.ensures.bound)

pub unreachable-requires : goal.unreachable-requires
unreachable-requires c =
    let points = c.args.points.now in
    let there : c.args.block * 4 < length points = omega (arith, has_point points c.args.block c.requires) in
    none-some (get_or points (c.args.block * 4) any) (sym c.in-None.is ∙ c.get.ensures ∙ slice_get-get_or points (c.args.block * 4) any there)

pub returns : goal.returns
returns c e =
    let points = c.args.points.now in
    let at : slice_get points (c.args.block * 4) ≡ Some c.in-Some.first = sym c.in-Some.ensures in
    let place : c.args.block * 4 ≡ 4 * c.args.block = omega arith in
    c.key.ensures ∙ ap (λ (p : Entry). p.key) (sym (get_or_from_slice_get points (c.args.block * 4) c.in-Some.first e at)) ∙ ap (λ n. (get_or points n e).key) place

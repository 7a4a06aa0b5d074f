use Rattle.std.proofs.Common.{rules, ◌≡◌, ◌++◌, map, ◌∙◌}
use Rattle.std.specs.Arc.{arc_value}
use Rattle.std.proofs.lemmas.List.{map-id}
use Rattle.std.specs.List.{AllByRecursion, flat_map}
use Rattle.uc_run_entry.specs.Cutting.{fragments_of}
use Rattle.uc_compact.specs.Cuts.{is_below, is_from}
use Rattle.uc_compact.specs.Inputs.{ranges_of}
use Rattle.uc_compact.specs.Kept.{AreOfOneKeyEach, points_kept}
use Rattle.uc_compact.proofs.Taking.{Sorted}
use Rattle.uc_compact.proofs.Parting.{sorted_of, one_key_of_below, one_key_of_from, both_kept}
use Rattle.uc_compact.proofs.parts.+parts.Goals as goal

pub join-top-requires-after_bounds : goal.join-top-requires-after_bounds
join-top-requires-after_bounds g t c κs within =
    let cut = c.in-Some.last.now.now in
    let runs = c.args.runs.now in
    let below = c.as_slice-below.result.now in
    let from = c.as_slice-from.result.now in
    let fragments = fragments_of (ranges_of (map arc_value c.args.inputs.now)) in
    let below_sorted : AllByRecursion Sorted below = sorted_of (λ points. points) cut runs c.in_ok-below.below.items below c.as_slice-below.ensures.value (is_below cut) (map-id _ ∙ c.in_ok-below.ensures.below) c.requires.sorted in
    let from_sorted : AllByRecursion Sorted from = sorted_of (λ points. points) cut runs c.in_ok-below.from.items from c.as_slice-from.ensures.value (is_from cut) (map-id _ ∙ c.in_ok-below.ensures.from) c.requires.sorted in
    let below_each : AreOfOneKeyEach fragments (flat_map (λ points. points) below) = one_key_of_below (λ points. points) cut runs c.in_ok-below.below.items below c.as_slice-below.ensures.value (map-id _ ∙ c.in_ok-below.ensures.below) fragments c.requires.each in
    let from_each : AreOfOneKeyEach fragments (flat_map (λ points. points) from) = one_key_of_from (λ points. points) cut runs c.in_ok-below.from.items from c.as_slice-from.ensures.value (map-id _ ∙ c.in_ok-below.ensures.from) fragments c.requires.each in
    search (rules, below_sorted, from_sorted, below_each, from_each)

pub returns : goal.returns
returns g t c =
    let m = g.O.Operator.meaning in
    let cut = c.in-Some.last.now.now in
    let below = c.as_slice-below.result.now in
    let from = c.as_slice-from.result.now in
    let fragments = fragments_of (ranges_of (map arc_value c.args.inputs.now)) in
    let keeping = c.args.keeping.now in
    let kept : c.in_ok-kept.kept ≡ points_kept m keeping fragments (flat_map (λ points. points) below) = search rules in
    let top : c.in_ok-top.top ≡ points_kept m keeping fragments (flat_map (λ points. points) from) = search rules in
    let all : c.extend.new.self ≡ c.in_ok-kept.kept ++ c.in_ok-top.top = c.in_ok-extend.ensures.pushed in
    both_kept (λ points. points) cut c.args.runs.now m keeping fragments c.in_ok-below.below.items below c.in_ok-below.from.items from c.in_ok-kept.kept c.in_ok-top.top c.extend.new.self
    c.as_slice-below.ensures.value c.as_slice-from.ensures.value (map-id _ ∙ c.in_ok-below.ensures.below) (map-id _ ∙ c.in_ok-below.ensures.from) kept top all

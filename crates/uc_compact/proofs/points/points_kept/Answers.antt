use Rattle.std.proofs.Common.{◌≡◌, List, ◌++◌, map, sym, ap, ◌∙◌, subst}
use Rattle.std.specs.Arc.{arc_value}
use Rattle.std.specs.List.{flat_map}
use Rattle.uc_run_entry.specs.Fragment.{Fragment}
use Rattle.uc_run_entry.specs.Cutting.{fragments_of}
use Rattle.uc_compact.specs.Inputs.{ranges_of}
use Rattle.uc_compact.specs.Kept.{AreOfOneKeyEach}
use Rattle.uc_compact.specs.Pieces.{fragments_in}
use Rattle.uc_compact.proofs.Gathered.{same_ranges}
use Rattle.uc_compact.proofs.Grouping.{each_by, kept_by}
use Rattle.uc_compact.proofs.Pushing.{of_groups}
use Rattle.uc_compact.proofs.points.points_kept.Goals as goal

pub push_groups-requires-clause-each : goal.push_groups-requires-clause-each
push_groups-requires-clause-each g c =
    let m = g.O.Operator.meaning in
    let points = flat_map (λ points. points) c.args.runs.now in
    let fronts = c.deref_mut.result.now in
    let runs = map arc_value c.args.inputs.now in
    let same : ranges_of fronts ≡ ranges_of runs = same_ranges fronts runs (ap fragments_in c.deref_mut.ensures.value ∙ c.in_ok-fronts.ensures) in
    each_by m c.args.keeping.now (fragments_of (ranges_of fronts)) points c.requires.keeps_rise c.in_ok-groups.groups c.keeps.result.now c.keeps.ensures c.in_ok-groups.ensures
    (subst (λ (cut : List Fragment). AreOfOneKeyEach cut points) (sym (ap fragments_of same)) c.requires.each)

pub returns : goal.returns
returns g c =
    let m = g.O.Operator.meaning in
    let keeping = c.args.keeping.now in
    let fronts = c.deref_mut.result.now in
    let runs = map arc_value c.args.inputs.now in
    let same : ranges_of fronts ≡ ranges_of runs = same_ranges fronts runs (ap fragments_in c.deref_mut.ensures.value ∙ c.in_ok-fronts.ensures) in
    kept_by m keeping (fragments_of (ranges_of runs)) (flat_map (λ points. points) c.args.runs.now) c.requires.keeps_rise c.in_ok-groups.groups c.keeps.result.now c.keeps.ensures c.in_ok-groups.ensures c.requires.each
    c.new-kept.result c.push_groups.new.kept c.new-kept.ensures
    (c.in_ok-push_groups.ensures ∙ ap (λ (cut : List Fragment). c.new-kept.result ++ of_groups m keeping cut c.in_ok-groups.groups) (ap fragments_of same))

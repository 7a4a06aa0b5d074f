use Rattle.std.proofs.Common.{◌≡◌, List, map, ◌∙◌, subst}
use Rattle.std.proofs.lemmas.List.{map-id}
use Rattle.std.specs.Arc.{arc_value}
use Rattle.std.specs.Result.{IfOk}
use Rattle.uc_run_entry.specs.declared.entry.Entry.{Entry}
use Rattle.uc_run_entry.specs.Cutting.{fragments_of}
use Rattle.uc_compact.specs.Inputs.{ranges_of}
use Rattle.uc_compact.specs.Kept.{points_kept}
use Rattle.uc_compact.proofs.Grouping.{sorted_by, each_in_runs, lent_points}
use Rattle.uc_compact.proofs.parts.points_kept_alone.Goals as goal

pub points_kept-requires-clause-sorted : goal.points_kept-requires-clause-sorted
points_kept-requires-clause-sorted g c =
    sorted_by (λ points. points) c.in_ok-runs.runs.items c.deref.result.now (map arc_value c.args.inputs.now) c.requires.runs (map-id _ ∙ c.in_ok-runs.ensures) c.deref.ensures.value

pub points_kept-requires-clause-each : goal.points_kept-requires-clause-each
points_kept-requires-clause-each g c =
    each_in_runs (λ points. points) c.in_ok-runs.runs.items c.deref.result.now (map arc_value c.args.inputs.now) (fragments_of (ranges_of (map arc_value c.args.inputs.now))) (map-id _ ∙ c.in_ok-runs.ensures) c.deref.ensures.value c.requires.each

pub returns : goal.returns
returns g c =
    subst (λ (ps : List Entry). IfOk c.points_kept.result (λ kept. kept ≡ points_kept g.O.Operator.meaning c.args.keeping.now (fragments_of (ranges_of (map arc_value c.args.inputs.now))) ps))
    (lent_points (λ points. points) c.in_ok-runs.runs.items c.deref.result.now (map arc_value c.args.inputs.now) (map-id _ ∙ c.in_ok-runs.ensures) c.deref.ensures.value)
    c.points_kept.ensures

use Rattle.std.proofs.Common.{◌≡◌, List, map, ◌∙◌, subst}
use Rattle.std.proofs.lemmas.List.{map-id}
use Rattle.std.specs.Arc.{arc_value}
use Rattle.std.specs.Result.{IfOk}
use Rattle.uc_run_entry.specs.declared.entry.Entry.{Entry}
use Rattle.uc_run_entry.specs.Cutting.{fragments_of}
use Rattle.uc_compact.specs.Inputs.{ranges_of}
use Rattle.uc_compact.specs.Kept.{points_kept}
use Rattle.uc_compact.proofs.Grouping.{sorted_by, each_in_runs, lent_points}
use Rattle.uc_compact.proofs.parts.points_kept_by_parts.Goals as goal

pub kept_between-requires-clause-sorted : goal.kept_between-requires-clause-sorted
kept_between-requires-clause-sorted g c κs within =
    sorted_by (λ points. points) c.in_ok-runs.runs.items c.deref.result.now (map arc_value c.args.inputs.now) c.requires.runs (map-id _ ∙ c.in_ok-runs.ensures) c.deref.ensures.value

pub kept_between-requires-clause-each : goal.kept_between-requires-clause-each
kept_between-requires-clause-each g c κs within =
    each_in_runs (λ points. points) c.in_ok-runs.runs.items c.deref.result.now (map arc_value c.args.inputs.now) (fragments_of (ranges_of (map arc_value c.args.inputs.now))) (map-id _ ∙ c.in_ok-runs.ensures) c.deref.ensures.value c.requires.each

pub returns : goal.returns
returns g c =
    subst (λ (ps : List Entry). IfOk c.kept_between.result (λ kept. kept ≡ points_kept g.O.Operator.meaning c.args.keeping.now (fragments_of (ranges_of (map arc_value c.args.inputs.now))) ps))
    (lent_points (λ points. points) c.in_ok-runs.runs.items c.deref.result.now (map arc_value c.args.inputs.now) (map-id _ ∙ c.in_ok-runs.ensures) c.deref.ensures.value)
    c.kept_between.ensures

use Rattle.std.proofs.Common.{◌≡◌, map, subst}
use Rattle.std.specs.Arc.{arc_value}
use Rattle.std.specs.Result.{IfOk}
use Rattle.uc_run_entry.specs.Run.{Contents}
use Rattle.uc_compact.specs.Inputs.{Compaction}
use Rattle.uc_compact.specs.Output.{output_of}
use Rattle.uc_compact.proofs.Building.{is_run_by, run_by}
use Rattle.uc_compact.proofs.output.merge_by_parts.Goals as goal

pub from_points-requires : goal.from_points-requires
from_points-requires g c =
    let m = g.O.Operator.meaning in
    let asked : Compaction = record { inputs = map arc_value c.args.inputs.now; keeps = c.args.keeps.now; oldest = c.args.oldest } in
    is_run_by (output_of m asked) c.low_seq-low.result c.high_seq-high.result c.in_ok-points.points c.in_ok-fragments.fragments c.low_seq-low.ensures c.high_seq-high.ensures c.in_ok-points.ensures c.in_ok-fragments.ensures (c.compaction_gives_a_run.ensures asked c.are_runs.ensures c.requires.stand)

pub returns-then-parts-eq1 : goal.returns-then-parts-eq1
returns-then-parts-eq1 g c =
    let m = g.O.Operator.meaning in
    let asked : Compaction = record { inputs = map arc_value c.args.inputs.now; keeps = c.args.keeps.now; oldest = c.args.oldest } in
    subst (λ (r : Contents). IfOk c.from_points.result (λ run. run ≡ r)) (run_by (output_of m asked) c.low_seq-low.result c.high_seq-high.result c.in_ok-points.points c.in_ok-fragments.fragments c.low_seq-low.ensures c.high_seq-high.ensures c.in_ok-points.ensures c.in_ok-fragments.ensures) c.from_points.ensures

pub from_points_in_threads-requires-after_bounds : goal.from_points_in_threads-requires-after_bounds
from_points_in_threads-requires-after_bounds g c κs within =
    let m = g.O.Operator.meaning in
    let asked : Compaction = record { inputs = map arc_value c.args.inputs.now; keeps = c.args.keeps.now; oldest = c.args.oldest } in
    is_run_by (output_of m asked) c.low_seq-low.result c.high_seq-high.result c.in_ok-points.points c.in_ok-fragments.fragments c.low_seq-low.ensures c.high_seq-high.ensures c.in_ok-points.ensures c.in_ok-fragments.ensures (c.compaction_gives_a_run.ensures asked c.are_runs.ensures c.requires.stand)

pub returns-else-parts-eq1 : goal.returns-else-parts-eq1
returns-else-parts-eq1 g c =
    let m = g.O.Operator.meaning in
    let asked : Compaction = record { inputs = map arc_value c.args.inputs.now; keeps = c.args.keeps.now; oldest = c.args.oldest } in
    subst (λ (r : Contents). IfOk c.from_points_in_threads.result (λ run. run ≡ r)) (run_by (output_of m asked) c.low_seq-low.result c.high_seq-high.result c.in_ok-points.points c.in_ok-fragments.fragments c.low_seq-low.ensures c.high_seq-high.ensures c.in_ok-points.ensures c.in_ok-fragments.ensures) c.from_points_in_threads.ensures

use Rattle.std.proofs.Common.{◌≡◌, map, subst}
use Rattle.std.specs.Arc.{arc_value}
use Rattle.std.specs.Result.{IfOk}
use Rattle.uc_run_entry.specs.Run.{Contents}
use Rattle.uc_compact.specs.Inputs.{Compaction}
use Rattle.uc_compact.specs.Output.{output_of}
use Rattle.uc_compact.proofs.Building.{is_run_by, run_by}
use Rattle.uc_compact.proofs.output.merge_alone.Goals as goal

pub from_points-requires : goal.from_points-requires
from_points-requires g c =
    let m = g.O.Operator.meaning in
    let asked : Compaction = record { inputs = map arc_value c.args.inputs.now; keeps = c.args.keeps.now; oldest = c.args.oldest } in
    is_run_by (output_of m asked) c.low_seq.result c.high_seq.result c.in_ok-points.points c.in_ok-fragments.fragments c.low_seq.ensures c.high_seq.ensures c.in_ok-points.ensures c.in_ok-fragments.ensures (c.compaction_gives_a_run.ensures asked c.are_runs.ensures c.requires)

pub returns : goal.returns
returns g c =
    let m = g.O.Operator.meaning in
    let asked : Compaction = record { inputs = map arc_value c.args.inputs.now; keeps = c.args.keeps.now; oldest = c.args.oldest } in
    subst (λ (r : Contents). IfOk c.from_points.result (λ run. run ≡ r)) (run_by (output_of m asked) c.low_seq.result c.high_seq.result c.in_ok-points.points c.in_ok-fragments.fragments c.low_seq.ensures c.high_seq.ensures c.in_ok-points.ensures c.in_ok-fragments.ensures) c.from_points.ensures

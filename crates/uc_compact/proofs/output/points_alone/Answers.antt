use Rattle.std.proofs.Common.{◌≡◌, map}
use Rattle.std.specs.Arc.{arc_value}
use Rattle.std.proofs.lemmas.Result.{IfOk-weaker}
use Rattle.uc_compact.specs.Inputs.{Compaction, keeping_of}
use Rattle.uc_compact.proofs.Building.{points_by, keeping_by}
use Rattle.uc_compact.proofs.output.points_alone.Goals as goal

pub points_kept_alone-requires-clause-each : goal.points_kept_alone-requires-clause-each
points_kept_alone-requires-clause-each g c = λ key.
    let asked : Compaction = record { inputs = map arc_value c.args.inputs.now; keeps = c.args.keeps.now; oldest = c.args.oldest } in
    c.points_are_chosen_key_by_key.ensures.fall asked key c.are_runs.ensures c.requires

pub returns : goal.returns
returns g c =
    let m = g.O.Operator.meaning in
    let asked : Compaction = record { inputs = map arc_value c.args.inputs.now; keeps = c.args.keeps.now; oldest = c.args.oldest } in
    let keeping : c.new-keeping.result ≡ keeping_of asked = keeping_by asked c.new-keeping.result c.bottom_of.result c.new-keeping.ensures c.bottom_of.ensures in
    IfOk-weaker c.points_kept_alone.result _ _
    (λ points made. points_by m asked c.new-keeping.result points keeping made (c.points_are_chosen_key_by_key.ensures.points asked c.are_runs.ensures c.requires)) c.points_kept_alone.ensures

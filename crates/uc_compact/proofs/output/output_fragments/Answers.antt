use Rattle.std.proofs.Common.{◌≡◌, List, map, refl, subst}
use Rattle.std.specs.Arc.{arc_value}
use Rattle.std.specs.Result.{IfOk}
use Rattle.uc_run_entry.specs.Fragment.{Fragment}
use Rattle.uc_compact.specs.Inputs.{Compaction, keeping_of}
use Rattle.uc_compact.proofs.Building.{fragments_by, keeping_by}
use Rattle.uc_compact.proofs.output.output_fragments.Goals as goal

pub returns : goal.returns
returns g c =
    let m = g.O.Operator.meaning in
    let asked : Compaction = record { inputs = map arc_value c.args.inputs.now; keeps = c.args.keeps.now; oldest = c.args.oldest } in
    let keeping : c.new-keeping.result ≡ keeping_of asked = keeping_by asked c.new-keeping.result c.bottom_of.result c.new-keeping.ensures c.bottom_of.ensures in
    subst (λ (fs : List Fragment). IfOk c.fragments_kept.result (λ made. made ≡ fs)) (fragments_by m asked c.new-keeping.result _ keeping refl) c.fragments_kept.ensures

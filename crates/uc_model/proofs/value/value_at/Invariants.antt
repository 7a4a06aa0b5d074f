use Rattle.std.proofs.Common.{◌≡◌, drop, fold}
use Rattle.uc_model.specs.Meaning.{changed, touching, value_of}
use Rattle.uc_model.proofs.value.value_at.Given as goal

abbrev pub invariant-loop-write : goal.invariant-loop-write
invariant-loop-write g l =
    let m = g.O.Operator.meaning in
    fold (λ value w. changed m value w.op) l.value (touching (drop l.write-index l.writes) l.key l.at) ≡ value_of m l.writes l.key l.at

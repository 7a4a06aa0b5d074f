use Rattle.std.proofs.Common.{◌≡◌, drop, fold}
use Rattle.uc_oper.specs.Composition.{composed}
use Rattle.uc_model.specs.Meaning.{touching, effect_of, effect_on}
use Rattle.uc_model.proofs.value.effect_at.Given as goal

abbrev pub invariant-loop-write : goal.invariant-loop-write
invariant-loop-write g l =
    let m = g.O.Operator.meaning in
    fold (λ effect w. composed m effect (effect_of w.op)) l.effect (touching (drop l.write-index l.writes) l.key l.at) ≡ effect_on m l.writes l.key l.at

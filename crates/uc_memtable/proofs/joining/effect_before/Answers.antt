use Rattle.std.proofs.Common.{◌≡◌, ◌-◌, List, ap, ◌∙◌, subst, arith}
use Rattle.uc_bytes.specs.declared.write.Write.{Write}
use Rattle.uc_oper.specs.Composition.{composed}
use Rattle.uc_oper.specs.declared.effect.Effect.{Effect}
use Rattle.uc_model.specs.Meaning.{effect_on}
use Rattle.uc_memtable.specs.Frozen.{all_of}
use Rattle.uc_memtable.proofs.EffectsBefore.{one_before}
use Rattle.uc_memtable.proofs.joining.effect_before.Goals as goal

pub loop-place-preserved : goal.loop-place-preserved
loop-place-preserved g c =
    let m = g.O.Operator.meaning in
    let older = subst (λ (ws : List Write). c.in_ok-older.older ≡ effect_on m ws c.args.key.now c.args.at) c.memtable.ensures c.in_ok-older.ensures in
    one_before m c.args.key.now c.args.at c.effects_of_parts_compose.ensures c.then_is_associative.ensures
    c.args.memtables.now (c.loop-place.place - 1) c.loop-place.place c.index-memtables-place.result c.in_ok-older.older c.loop-place.effect c.in_ok-effect.effect
    (composed m (effect_on m (all_of c.args.memtables.now) c.args.key.now c.args.at) c.args.newer)
    (omega (arith, c.loop-place.auto.place, c.loop-place-test.true)) (omega (arith, c.loop-place-test.true)) c.index-memtables-place.is older
    (c.in_ok-effect.ensures ∙ ap (λ (x : Effect). composed m c.in_ok-older.older x) c.in_ok-newer.ensures) c.loop-place.invariant

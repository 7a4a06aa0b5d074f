use Rattle.std.proofs.Common.{rules, ◌≡◌}
use Rattle.uc_oper.specs.Composition.{composed}
use Rattle.uc_run_entry.specs.Lookup as lookup
use Rattle.uc_compact.proofs.InTurn.{drop_oldest}
use Rattle.uc_compact.proofs.folder.folded_onto.Goals as goal

pub loop-place-preserved : goal.loop-place-preserved
loop-place-preserved g c =
    let m = g.O.Operator.meaning in
    let made : c.in_ok-effect.effect ≡ composed m c.loop-place.effect (lookup.what_effect c.index-points-place.result.what) = search rules in
    drop_oldest m c.loop-place.effect c.in_ok-effect.effect c.args.points.now c.loop-place.place c.index-points-place.result _ (search rules) (search rules) c.index-points-place.is made c.loop-place.invariant

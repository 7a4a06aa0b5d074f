use Rattle.std.proofs.Common.{rules, ◌≡◌, sym, ap, ◌∙◌, subst}
use Rattle.std.specs.Prelude.{IfOk}
use Rattle.uc_oper.specs.Composition.{composed}
use Rattle.uc_oper.specs.declared.effect.Effect.{Effect}
use Rattle.uc_run_entry.specs.declared.entry.Entry.{Entry}
use Rattle.uc_run_entry.specs.declared.entry.What.{What}
use Rattle.uc_run_entry.specs.Lookup as lookup
use Rattle.uc_run.proofs.LookupEffects.{drop_oldest, one_does}
use Rattle.uc_run.proofs.lookup.few_effect.Goals as goal

pub returns-then-len-eq1 : goal.returns-then-len-eq1
returns-then-len-eq1 g c =
    let m = g.O.Operator.meaning in
    let made =
    ap (λ (w : What). composed m c.args.before (lookup.what_effect w)) c.what.ensures
    ∙ one_does m c.args.before c.args.points.now c.at.result (sym c.len.ensures.count ∙ c.if-len-eq1.true) c.at.ensures in
    subst (λ (e : Effect). IfOk c.after.result (λ effect. effect ≡ e)) made c.after.ensures

pub loop-place-preserved : goal.loop-place-preserved
loop-place-preserved g c =
    let m = g.O.Operator.meaning in
    let p : Entry = c.index.result.now in
    let refs = c.in_ok-refs.refs.items in
    let made : c.in_ok-effect.effect ≡ composed m c.loop-place.effect (lookup.what_effect p.what) = search rules in
    drop_oldest m c.loop-place.effect c.in_ok-effect.effect refs c.loop-place.place p _ (search rules) (search rules) c.index.ensures made c.loop-place.invariant

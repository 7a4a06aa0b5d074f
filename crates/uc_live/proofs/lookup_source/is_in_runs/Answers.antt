use Rattle.std.proofs.Common.{sym, ◌∙◌}
use Rattle.uc_live.proofs.SeenEffects.{told_of_run, seen_at, none_more, none_of_all}
use Rattle.uc_live.proofs.lookup_source.is_in_runs.Goals as goal

pub returns-then-branch : goal.returns-then-branch
returns-then-branch g c =
    let key = c.args.key.now in
    let at = c.args.at in
    let told = told_of_run (λ p. p.run) key at g.O.Operator.meaning c.placed-item.result c.deref.result.now c.in_ok-effect.effect c.in_ok-is_change.field-0 (c.deref.ensures ∙ c.run.ensures) c.in_ok-effect.ensures c.in_ok-is_change.ensures in
    seen_at (λ p. p.run) key at c.args.runs.now c.loop-placed.placed-index c.placed-item.result c.loop-placed-test.true c.placed-item.is (sym told ∙ c.if-branch.true)

pub loop-placed-preserved : goal.loop-placed-preserved
loop-placed-preserved g c =
    let key = c.args.key.now in
    let at = c.args.at in
    let told = told_of_run (λ p. p.run) key at g.O.Operator.meaning c.placed-item.result c.deref.result.now c.in_ok-effect.effect c.in_ok-is_change.field-0 (c.deref.ensures ∙ c.run.ensures) c.in_ok-effect.ensures c.in_ok-is_change.ensures in
    none_more (λ p. p.run) key at c.args.runs.now c.loop-placed.placed-index c.placed-item.result c.loop-placed-test.true c.placed-item.is c.loop-placed.invariant (sym told ∙ c.if-branch.false)

pub returns : goal.returns
returns g c =
    none_of_all (λ p. p.run) c.args.key.now c.args.at c.args.runs.now c.loop-placed.placed-index c.loop-placed-test.false c.loop-placed.invariant

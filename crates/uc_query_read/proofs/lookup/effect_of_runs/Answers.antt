use Rattle.std.proofs.Common.{◌+◌, ◌∙◌, sym}
use Rattle.uc_query_read.proofs.Effects.{one_older, set_stays}
use Rattle.uc_query_read.proofs.lookup.effect_of_runs.Goals as goal

pub returns-then-is_set : goal.returns-then-is_set
returns-then-is_set g c =
    let m = g.O.Operator.meaning in
    let parts = c.effects_of_parts_compose.ensures in
    let made = one_older (λ p. p.run) m parts c.args.key.now c.args.at c.args.runs.now c.loop-placed.placed-index c.placed-item.result c.deref.result.now c.in_ok-older.older c.loop-placed.newer c.in_ok-both.both c.loop-placed-test.true c.placed-item.is (c.deref.ensures ∙ c.run.ensures) c.in_ok-older.ensures c.loop-placed.invariant c.in_ok-both.ensures in
    sym (set_stays (λ p. p.run) m parts c.args.key.now c.args.at c.args.runs.now (c.loop-placed.placed-index + 1) c.in_ok-both.both (c.is_set.ensures.0 c.if-is_set.true) (sym made))

pub loop-placed-preserved : goal.loop-placed-preserved
loop-placed-preserved g c =
    c.in_ok-newer.ensures
    ∙ one_older (λ p. p.run) g.O.Operator.meaning c.effects_of_parts_compose.ensures c.args.key.now c.args.at c.args.runs.now c.loop-placed.placed-index c.placed-item.result c.deref.result.now c.in_ok-older.older c.loop-placed.newer c.in_ok-both.both c.loop-placed-test.true c.placed-item.is (c.deref.ensures ∙ c.run.ensures) c.in_ok-older.ensures c.loop-placed.invariant c.in_ok-both.ensures

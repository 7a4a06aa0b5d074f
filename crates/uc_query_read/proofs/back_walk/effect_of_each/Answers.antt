use Rattle.std.proofs.Common.{◌+◌, ◌∙◌, refl, sym}
use Rattle.uc_query_read.proofs.Effects.{one_older, set_stays}
use Rattle.uc_query_read.proofs.back_walk.effect_of_each.Goals as goal

pub returns-then-is_set : goal.returns-then-is_set
returns-then-is_set g c =
    let m = g.O.Operator.meaning in
    let parts = c.effects_of_parts_compose.ensures in
    let made = one_older (λ s. s.run) m parts c.args.key.now c.args.at c.args.cursors.now c.loop-cursor.cursor-index c.cursor-item.result c.cursor-item.result.run c.in_ok-older.older c.loop-cursor.newer c.in_ok-both.both c.loop-cursor-test.true c.cursor-item.is refl c.in_ok-older.ensures c.loop-cursor.invariant c.in_ok-both.ensures in
    sym (set_stays (λ s. s.run) m parts c.args.key.now c.args.at c.args.cursors.now (c.loop-cursor.cursor-index + 1) c.in_ok-both.both (c.is_set.ensures.0 c.if-is_set.true) (sym made))

pub loop-cursor-preserved : goal.loop-cursor-preserved
loop-cursor-preserved g c =
    c.in_ok-newer.ensures
    ∙ one_older (λ s. s.run) g.O.Operator.meaning c.effects_of_parts_compose.ensures c.args.key.now c.args.at c.args.cursors.now c.loop-cursor.cursor-index c.cursor-item.result c.cursor-item.result.run c.in_ok-older.older c.loop-cursor.newer c.in_ok-both.both c.loop-cursor-test.true c.cursor-item.is refl c.in_ok-older.ensures c.loop-cursor.invariant c.in_ok-both.ensures

use Rattle.std.proofs.Common.{option_map, sym, subst}
use Rattle.uc_query_read.specs.Back.{StandsBelow}
use Rattle.uc_query_read.proofs.BackKeys.{greatest_step}
use Rattle.uc_query_read.proofs.Beside.{of_one}
use Rattle.uc_query_read.proofs.back_walk.greatest_key.Goals as goal

pub loop-cursor-preserved : goal.loop-cursor-preserved
loop-cursor-preserved c high stands =
    let cursors = c.args.cursors.now in
    let cursor = c.cursor-item.result in
    let there = subst (StandsBelow high) (sym c.cursor-item.is) (of_one (StandsBelow high) cursors c.loop-cursor.cursor-index cursor c.loop-cursor-test.true stands) in
    greatest_step high (λ s. s.run) cursors c.loop-cursor.cursor-index cursor
    (option_map (λ k. k.now) c.loop-cursor.greatest) (option_map (λ k. k.now) c.key.result) (option_map (λ k. k.now) c.greater-greatest.result)
    c.loop-cursor-test.true c.cursor-item.is (c.loop-cursor.invariant high stands) (c.key.ensures.last high there) c.greater-greatest.ensures

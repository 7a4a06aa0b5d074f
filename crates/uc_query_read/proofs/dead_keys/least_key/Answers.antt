use Rattle.std.proofs.Common.{option_map}
use Rattle.uc_query_read.proofs.LeastKeys.{least_step}
use Rattle.uc_query_read.proofs.Standing.{at_place}
use Rattle.uc_query_read.proofs.dead_keys.least_key.Goals as goal

pub loop-cursor-preserved : goal.loop-cursor-preserved
loop-cursor-preserved c low strict stands =
    let cursors = c.args.cursors.now in
    let cursor = c.cursor-item.result in
    let own = c.key.ensures.next low strict (at_place low strict cursors c.loop-cursor.cursor-index cursor c.loop-cursor-test.true c.cursor-item.is stands) in
    least_step low strict (λ s. s.run) cursors c.loop-cursor.cursor-index cursor
    (option_map (λ k. k.now) c.loop-cursor.least) (option_map (λ k. k.now) c.key.result) (option_map (λ k. k.now) c.lesser-least.result)
    c.loop-cursor-test.true c.cursor-item.is (c.loop-cursor.invariant low strict stands) own c.lesser-least.ensures

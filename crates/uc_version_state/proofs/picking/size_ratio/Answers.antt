use Rattle.std.proofs.Common.{◌∙◌}
use Rattle.uc_version_state.specs.Picks.{collected_enough}
use Rattle.uc_version_state.proofs.First.{passed_at}
use Rattle.uc_version_state.proofs.picking.size_ratio.Goals as goal

pub loop-first-preserved : goal.loop-first-preserved
loop-first-preserved c =
    let n = c.collected_enough-count.result in
    c.loop-first.invariant ∙ passed_at (collected_enough c.args.options.now) c.args.candidates.now c.loop-first.first n c.loop-first-test.true c.collected_enough-count.ensures c.if-count-gt0.false

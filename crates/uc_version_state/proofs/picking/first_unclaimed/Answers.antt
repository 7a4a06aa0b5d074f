use Rattle.std.proofs.Common.{◌∙◌}
use Rattle.uc_version_state.specs.Picks.{unclaimed_at_most}
use Rattle.uc_version_state.proofs.First.{passed_at}
use Rattle.uc_version_state.proofs.picking.first_unclaimed.Goals as goal

pub loop-first-preserved : goal.loop-first-preserved
loop-first-preserved c =
    let n = c.unclaimed_at_most-count.result in
    c.loop-first.invariant ∙ passed_at (unclaimed_at_most c.args.most) c.args.candidates.now c.loop-first.first n c.loop-first-test.true c.unclaimed_at_most-count.ensures c.if-count-gt0.false

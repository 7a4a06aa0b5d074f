use Rattle.uc_run_entry.proofs.Written.{written}
use Rattle.uc_query_read.specs.Back.{passed_back}
use Rattle.uc_query_read.proofs.back_walk.pass_each.Goals as goal

pub loop-place-preserved : goal.loop-place-preserved
loop-place-preserved c =
    written (passed_back c.args.key.now) c.args.cursors.now c.loop-place.cursors c.loop-place.place _ c.pass.new.self c.loop-place-test.true c.loop-place.invariant c.pass.ensures

use Rattle.std.specs.Prelude.{None}
use Rattle.uc_version.specs.Installing.{moved_up}
use Rattle.uc_version.proofs.Flags.{changed}
use Rattle.uc_version.proofs.claims.move_up.Goals as goal

pub loop-number-preserved : goal.loop-number-preserved
loop-number-preserved c =
    changed (moved_up c.args.first c.args.count) c.args.claims.now c.loop-number.claims c.moved_up.result c.loop-number.number None c.loop-number-test.true c.loop-number.invariant c.moved_up.ensures

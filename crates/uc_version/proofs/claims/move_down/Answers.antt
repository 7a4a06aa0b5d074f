use Rattle.std.specs.Prelude.{None}
use Rattle.uc_version.specs.Feeding.{moved_down}
use Rattle.uc_version.proofs.Feeding.{next_fits}
use Rattle.uc_version.proofs.Flags.{changed}
use Rattle.uc_version.proofs.claims.move_down.Goals as goal

pub moved_down-requires : goal.moved_down-requires
moved_down-requires c =
    next_fits c.args.count (moved_down c.args.count) c.args.claims.now c.loop-number.claims c.loop-number.number c.loop-number-test.true c.loop-number.invariant c.requires

pub loop-number-preserved : goal.loop-number-preserved
loop-number-preserved c =
    changed (moved_down c.args.count) c.args.claims.now c.loop-number.claims c.moved_down.result c.loop-number.number None c.loop-number-test.true c.loop-number.invariant c.moved_down.ensures

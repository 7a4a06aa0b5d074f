use Rattle.std.proofs.Common.{◌∙◌, length-set, arith}
use Rattle.uc_version.proofs.Flags.{flag_is, flag_set}
use Rattle.uc_version.proofs.slots.busy_slots.Goals as goal

pub loop-slot-preserved : goal.loop-slot-preserved
loop-slot-preserved c =
    let i = c.loop-slot.invariant in
    let room = c.loop-slot-test.true in
    let long = i.long in
    record {
      long = length-set c.loop-slot.busy c.loop-slot.slot c.has.result ∙ i.long;
      flags = flag_set c.loop-slot.busy c.args.held.now.slots c.loop-slot.slot c.has.result (omega (arith, room, long)) (flag_is c.has.result c.args.held.now.slots c.loop-slot.slot c.has.ensures) i.flags;
    }

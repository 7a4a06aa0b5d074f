use Rattle.std.proofs.Common.{subst, arith}
use Rattle.std.specs.Prelude.{All, Contains}
use Rattle.std.proofs.lemmas.List.{take_all}
use Rattle.std.proofs.lemmas.List.Elements.{All-more}
use Rattle.calls.proofs.slot_lists.holds_all.Goals as goal

pub loop-slot-preserved : goal.loop-slot-preserved
loop-slot-preserved c =
    All-more (Contains c.args.held.now.slots) c.args.slots.now c.loop-slot.slot-index 0 c.loop-slot-test.true c.loop-slot.invariant (c.has.ensures.0 c.if-not-has.false)

pub returns : goal.returns
returns c _ =
    subst (All (Contains c.args.held.now.slots)) (take_all c.loop-slot.slot-index c.args.slots.now (omega arith)) c.loop-slot.invariant

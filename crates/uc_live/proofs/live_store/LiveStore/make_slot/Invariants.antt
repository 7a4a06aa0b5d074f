use Rattle.std.proofs.Common.{length}
use Rattle.uc_live.proofs.Quiet.{Quiet}
use Rattle.uc_live.proofs.live_store.LiveStore.make_slot.Given as goal

abbrev pub invariant-loop-self : goal.invariant-loop-self
invariant-loop-self g l = Quiet g.O.Operator.meaning l.fn.self l.self

abbrev pub decreases-loop-self : goal.decreases-loop-self
decreases-loop-self g l = length l.self.version.runs

use Rattle.std.proofs.Common.{length}
use Rattle.uc_live.proofs.Quiet.{Quiet}
use Rattle.uc_live.proofs.live_store.LiveStore.compact_while_picked.Given as goal

abbrev pub invariant-loop : goal.invariant-loop
invariant-loop g l = Quiet g.O.Operator.meaning l.fn.self l.self

abbrev pub decreases-loop : goal.decreases-loop
decreases-loop g l = length l.self.version.runs

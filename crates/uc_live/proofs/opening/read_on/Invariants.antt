use Rattle.uc_live.proofs.LogTaken.{HasRead}
use Rattle.uc_live.proofs.opening.read_on.Given as goal

abbrev pub invariant-loop-store : goal.invariant-loop-store
invariant-loop-store g l = HasRead g.O.Operator.meaning l.fn.store l.store l.fn.batches.ahead l.batches

abbrev pub decreases-loop-store : goal.decreases-loop-store
decreases-loop-store g l = l.batches.left

use Rattle.std.proofs.Common.{length}
use Rattle.uc_logrec.proofs.Writing.{Remains}
use Rattle.uc_logrec.specs.Log.{Extends}
use Rattle.uc_logrec.proofs.log_writer.push_rest.Given as goal

abbrev pub invariant-loop-left : goal.invariant-loop-left
invariant-loop-left l = record { remains : Remains l.fn.text.items l.payload l.text.items l.left; kept : Extends l.fn.text.items l.text.items }

abbrev pub decreases-loop-left : goal.decreases-loop-left
decreases-loop-left l = length l.left

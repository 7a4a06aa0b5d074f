use Rattle.std.proofs.Common.{length}
use Rattle.uc_run_entry.proofs.Together.{AreAlike}
use Rattle.uc_run_entry.proofs.alike.are_alike.Given as goal

abbrev pub invariant-loop-seq : goal.invariant-loop-seq
invariant-loop-seq l = AreAlike l.fn.ahead l.fn.other l.ahead l.other

abbrev pub decreases-loop-seq : goal.decreases-loop-seq
decreases-loop-seq l = length l.ahead

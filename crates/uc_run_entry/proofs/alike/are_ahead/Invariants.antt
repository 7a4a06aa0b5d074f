use Rattle.std.proofs.Common.{drop}
use Rattle.uc_run_entry.proofs.Together.{AreAlike}
use Rattle.uc_run_entry.proofs.alike.are_ahead.Given as goal

abbrev pub invariant-loop-seq : goal.invariant-loop-seq
invariant-loop-seq l = AreAlike l.fn.ahead l.seqs l.ahead (drop l.seq-index l.seqs)

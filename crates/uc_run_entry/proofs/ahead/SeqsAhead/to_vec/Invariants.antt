use Rattle.std.proofs.Common.{◌≡◌, ◌++◌, length}
use Rattle.uc_run_entry.proofs.ahead.SeqsAhead.to_vec.Given as goal

abbrev pub invariant-loop-seq : goal.invariant-loop-seq
invariant-loop-seq l = l.seqs.items ++ l.ahead ≡ l.fn.self

abbrev pub decreases-loop-seq : goal.decreases-loop-seq
decreases-loop-seq l = length l.ahead

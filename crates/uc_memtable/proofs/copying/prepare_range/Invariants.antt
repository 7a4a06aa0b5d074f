use Rattle.uc_memtable.proofs.Copied.{HasCopied}
use Rattle.uc_memtable.proofs.copying.prepare_range.Given as goal

abbrev pub invariant-loop-place : goal.invariant-loop-place
invariant-loop-place l = HasCopied l.fn.active l.active l.writes l.first l.place l.end

use Rattle.uc_version_state.proofs.Counting.{HasCounted}
use Rattle.uc_version_state.proofs.cuts.memtable_count.Given as goal

abbrev pub invariant-loop-write : goal.invariant-loop-write
invariant-loop-write l = HasCounted l.limit l.writes l.write-index l.full l.size l.is_empty

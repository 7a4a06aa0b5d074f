use Rattle.uc_live.proofs.Prepared.{HasPrepared}
use Rattle.uc_live.proofs.waiting.prepare_all.Given as goal

abbrev pub invariant-loop-write : goal.invariant-loop-write
invariant-loop-write l = HasPrepared l.fn.active l.active l.fn.writes l.yielded l.write-iterator

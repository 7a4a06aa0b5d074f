use Rattle.std.proofs.lemmas.Bool.{false≢true}
use Rattle.uc_memtable.proofs.Gathered.{none_waits}
use Rattle.uc_memtable.proofs.gathered_memtables.GatheredMemtables.memtable.Goals as goal

pub memtable-requires : goal.memtable-requires
memtable-requires c =
    none_waits c.self.inside.active.waiting (λ some. false≢true (c.if-not-is_waiting.ensures.1 some))

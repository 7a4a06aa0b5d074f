use Rattle.uc_memtable.proofs.AllGathered.{shown_rising}
use Rattle.uc_memtable.proofs.flushable_memtables.FlushableMemtables.to_memtable.Goals as goal

pub to_memtable_behind-requires : goal.to_memtable_behind-requires
to_memtable_behind-requires c = shown_rising c.self.inside.apart c.self.inside.behind c.self.invariant

use Rattle.uc_memtable.proofs.AllGathered.{shown_rising}
use Rattle.uc_memtable.proofs.flushable_memtables.FlushableMemtables.set_apart.Goals as goal

pub take_frozen-requires : goal.take_frozen-requires
take_frozen-requires c = shown_rising c.self.inside.apart c.self.inside.behind c.self.invariant

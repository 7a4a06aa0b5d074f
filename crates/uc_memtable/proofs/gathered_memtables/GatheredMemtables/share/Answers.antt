use Rattle.uc_memtable.proofs.AllGathered.{shown_rising}
use Rattle.uc_memtable.proofs.gathered_memtables.GatheredMemtables.share.Goals as goal

pub freeze-requires : goal.freeze-requires
freeze-requires c = shown_rising c.self.inside.frozen c.self.inside.active c.self.invariant

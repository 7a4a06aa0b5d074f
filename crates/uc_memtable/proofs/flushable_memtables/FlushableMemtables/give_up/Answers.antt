use Rattle.uc_memtable.proofs.AllGathered.{given_up_rising}
use Rattle.uc_memtable.proofs.flushable_memtables.FlushableMemtables.give_up.Goals as goal

pub invariant_of-self : goal.invariant_of-self
invariant_of-self c = given_up_rising c.self.inside.apart c.self.inside.behind c.self.invariant c.give_up.new.self c.give_up.ensures

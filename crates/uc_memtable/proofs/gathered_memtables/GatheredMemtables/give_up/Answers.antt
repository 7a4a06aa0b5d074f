use Rattle.uc_memtable.proofs.AllGathered.{given_up_rising}
use Rattle.uc_memtable.proofs.gathered_memtables.GatheredMemtables.give_up.Goals as goal

pub invariant_of-self : goal.invariant_of-self
invariant_of-self c = given_up_rising c.self.inside.frozen c.self.inside.active c.self.invariant c.give_up.new.self c.give_up.ensures

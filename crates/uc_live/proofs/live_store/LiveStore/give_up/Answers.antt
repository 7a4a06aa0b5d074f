use Rattle.uc_live.proofs.Held.{unprepared_is}
use Rattle.uc_live.proofs.live_store.LiveStore.give_up.Goals as goal

pub invariant_of-self : goal.invariant_of-self
invariant_of-self g c = unprepared_is c.self.inside c.self.invariant c.give_up.new.self c.give_up.ensures

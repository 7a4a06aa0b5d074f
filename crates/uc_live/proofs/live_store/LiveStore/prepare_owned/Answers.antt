use Rattle.std.proofs.Common.{arith}
use Rattle.uc_live.proofs.Held.{unprepared_is}
use Rattle.uc_live.proofs.Last.{last_limited}
use Rattle.uc_live.proofs.live_store.LiveStore.prepare_owned.Goals as goal

pub invariant_of-self : goal.invariant_of-self
invariant_of-self g c = unprepared_is c.self.inside c.self.invariant c.give_up.new.self c.give_up.ensures

pub invariant_of-self-else-not-is_unnumbered : goal.invariant_of-self-else-not-is_unnumbered
invariant_of-self-else-not-is_unnumbered g c = unprepared_is c.self.inside c.self.invariant c.give_up.new.self c.give_up.ensures

pub overflow_add-last : goal.overflow_add-last
overflow_add-last g c =
    let below = last_limited c.self.inside c.self.invariant c.recall.ensures c.give_up.new.self c.give_up.ensures in
    let is = c.last.ensures in
    omega (arith, below, is)

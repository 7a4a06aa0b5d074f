use Rattle.std.proofs.Common.{subst, sym}
use Rattle.uc_batch.specs.Rising.{IsRising, last_of}
use Rattle.uc_memtable.specs.Gathering.{Gathering}
use Rattle.uc_memtable.proofs.AllGathered.{active_behind}
use Rattle.uc_memtable.proofs.gathered_memtables.GatheredMemtables.to_memtable.Goals as goal

pub take_shown-requires-clause-rising : goal.take_shown-requires-clause-rising
take_shown-requires-clause-rising c =
    let s = c.self.inside in
    subst (λ (g : Gathering). IsRising (last_of 0 g.shown) s.active.shown) (sym c.in_ok-one.ensures) (active_behind s.frozen s.active c.self.invariant)

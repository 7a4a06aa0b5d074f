use Rattle.std.proofs.Common.{◌++◌, List, subst, sym}
use Rattle.uc_bytes.specs.declared.write.Write.{Write}
use Rattle.uc_batch.specs.Rising.{IsRising}
use Rattle.uc_memtable.specs.Gathering.{Gathering}
use Rattle.uc_memtable.proofs.AllGathered.{shown_rising}
use Rattle.uc_memtable.proofs.RisingParts.{rising_alone}
use Rattle.uc_memtable.proofs.gathered_memtables.GatheredMemtables.take_frozen.Goals as goal

pub freeze-requires : goal.freeze-requires
freeze-requires c = shown_rising c.self.inside.frozen c.self.inside.active c.self.invariant

pub invariant_of-self-2 : goal.invariant_of-self-2
invariant_of-self-2 c =
    let s = c.self.inside in
    let waiting : IsRising 0 s.active.waiting = rising_alone 0 (s.frozen ++ s.active.shown) s.active.waiting c.self.invariant in
    subst (λ (ws : List Write). IsRising 0 ((ws ++ c.freeze.new.active.shown) ++ c.freeze.new.active.waiting)) (sym c.new.ensures)
    (subst (λ (g : Gathering). IsRising 0 (g.shown ++ g.waiting)) (sym c.in_ok-freeze.ensures.active) waiting)

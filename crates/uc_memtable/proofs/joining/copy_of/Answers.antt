use Rattle.std.proofs.Common.{List, subst, sym}
use Rattle.uc_bytes.specs.declared.write.Write.{Write}
use Rattle.uc_batch.specs.Rising.{IsRising, last_of}
use Rattle.uc_memtable.specs.Gathering.{Gathering}
use Rattle.uc_memtable.proofs.AllFrozen.{rising_at}
use Rattle.uc_memtable.proofs.joining.copy_of.Goals as goal

pub take_shown-requires-clause-rising : goal.take_shown-requires-clause-rising
take_shown-requires-clause-rising c =
    subst (λ (ws : List Write). IsRising (last_of 0 c.loop-memtable.one.shown) ws) (sym c.memtable.ensures)
    (subst (λ (g : Gathering). IsRising (last_of 0 g.shown) c.memtable-item.result) (sym c.loop-memtable.invariant)
    (rising_at c.args.memtables.now c.loop-memtable.memtable-index c.memtable-item.result c.loop-memtable-test.true c.memtable-item.is c.requires))

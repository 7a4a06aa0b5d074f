use Rattle.std.proofs.Common.{◌++◌, append_assoc, List, subst, sym}
use Rattle.uc_bytes.specs.declared.write.Write.{Write}
use Rattle.uc_batch.specs.Rising.{IsRising}
use Rattle.uc_memtable.proofs.RisingParts.{rising_alone}
use Rattle.uc_memtable.proofs.flushable_memtables.FlushableMemtables.drop_apart.Goals as goal

pub invariant_of-self : goal.invariant_of-self
invariant_of-self c =
    let s = c.self.inside in
    let rest : IsRising 0 (s.behind.shown ++ s.behind.waiting) =
    rising_alone 0 s.apart (s.behind.shown ++ s.behind.waiting) (subst (IsRising 0) (append_assoc s.apart s.behind.shown s.behind.waiting) c.self.invariant) in
    subst (λ (ws : List Write). IsRising 0 ((ws ++ s.behind.shown) ++ s.behind.waiting)) (sym c.new.ensures) rest

use Rattle.std.proofs.Common.{[], ◌++◌, List, subst, sym}
use Rattle.std.proofs.lemmas.List.{append-nil}
use Rattle.uc_bytes.specs.declared.write.Write.{Write}
use Rattle.uc_batch.specs.Rising.{IsRising}
use Rattle.uc_memtable.specs.Gathering.{Gathering}
use Rattle.uc_memtable.proofs.AllGathered.{shown_rising}
use Rattle.uc_memtable.proofs.flushable_memtables.FlushableMemtables.share.Goals as goal

pub invariant_of-result : goal.invariant_of-result
invariant_of-result c =
    let s = c.self.inside in
    let rising : IsRising 0 ((s.apart ++ s.behind.shown) ++ []) = subst (IsRising 0) (sym (append-nil (s.apart ++ s.behind.shown))) (shown_rising s.apart s.behind c.self.invariant) in
    subst (λ (ws : List Write). IsRising 0 ((ws ++ c.in_ok-behind.behind.shown) ++ c.in_ok-behind.behind.waiting)) (sym c.in_ok-shared.ensures)
    (subst (λ (g : Gathering). IsRising 0 ((s.apart ++ g.shown) ++ g.waiting)) (sym c.in_ok-behind.ensures.shared) rising)

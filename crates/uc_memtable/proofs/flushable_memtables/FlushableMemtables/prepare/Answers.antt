use Rattle.std.proofs.Common.{◌++◌, ◌<◌, arith, subst, sym}
use Rattle.uc_batch.specs.Rising.{last_of}
use Rattle.uc_memtable.specs.Gathering.{Gathered}
use Rattle.uc_memtable.proofs.AllGathered.{last_behind, prepared_rising}
use Rattle.uc_memtable.proofs.flushable_memtables.FlushableMemtables.prepare.Goals as goal

pub prepare-requires-clause-above : goal.prepare-requires-clause-above
prepare-requires-clause-above c =
    let s = c.self.inside in
    let above : last_of 0 ((s.apart ++ s.behind.shown) ++ s.behind.waiting) < c.args.write.now.seq =
    subst (λ (g : Gathered). last_of 0 (g.shown ++ g.waiting) < c.args.write.now.seq) (sym c.self.view_is) c.requires.above in
    let low = last_behind s.apart s.behind c.self.invariant in
    omega (arith, above, low)

pub invariant_of-self : goal.invariant_of-self
invariant_of-self c =
    let s = c.self.inside in
    let above : last_of 0 ((s.apart ++ s.behind.shown) ++ s.behind.waiting) < c.args.write.now.seq =
    subst (λ (g : Gathered). last_of 0 (g.shown ++ g.waiting) < c.args.write.now.seq) (sym c.self.view_is) c.requires.above in
    prepared_rising s.apart s.behind c.self.invariant c.prepare.result c.prepare.new.self c.args.write.now c.prepare.ensures.ok c.prepare.ensures.err above c.requires.below

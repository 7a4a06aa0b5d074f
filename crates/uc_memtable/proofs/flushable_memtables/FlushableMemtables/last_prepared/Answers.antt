use Rattle.std.proofs.Common.{rules, ◌≡◌, ◌++◌, max, ap, ◌∙◌}
use Rattle.uc_batch.specs.Rising.{last_of}
use Rattle.uc_memtable.specs.Gathering.{Gathered}
use Rattle.uc_memtable.proofs.AllGathered.{last_all}
use Rattle.uc_memtable.proofs.flushable_memtables.FlushableMemtables.last_prepared.Goals as goal

pub returns : goal.returns
returns c =
    let s = c.self.inside in
    let greater : c.max.result ≡ max (last_of 0 s.apart) (last_of 0 (s.behind.shown ++ s.behind.waiting)) = search rules in
    greater ∙ last_all s.apart s.behind c.self.invariant ∙ ap (λ (g : Gathered). last_of 0 (g.shown ++ g.waiting)) c.self.view_is

use Rattle.std.proofs.Common.{rules, ◌≡◌, ◌++◌, max, ap, ◌∙◌}
use Rattle.uc_batch.specs.Rising.{last_of}
use Rattle.uc_memtable.specs.Gathering.{Gathering}
use Rattle.uc_memtable.proofs.AllGathered.{last_all}
use Rattle.uc_memtable.proofs.gathered_memtables.GatheredMemtables.last_prepared.Goals as goal

pub returns : goal.returns
returns c =
    let s = c.self.inside in
    let greater : c.max.result ≡ max (last_of 0 s.frozen) (last_of 0 (s.active.shown ++ s.active.waiting)) = search rules in
    greater ∙ last_all s.frozen s.active c.self.invariant ∙ ap (λ (g : Gathering). last_of 0 (g.shown ++ g.waiting)) c.self.view_is

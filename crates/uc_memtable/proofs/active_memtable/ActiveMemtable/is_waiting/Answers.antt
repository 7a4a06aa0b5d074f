use Rattle.std.proofs.Common.{ap, subst, sym}
use Rattle.std.specs.Prelude.{IsTrue, ◌↔◌, ◌≢◌, [], nat_lt}
use Rattle.uc_memtable.specs.Gathering.{Gathering}
use Rattle.uc_memtable.proofs.Gathered.{waits_if}
use Rattle.uc_memtable.proofs.active_memtable.ActiveMemtable.is_waiting.Goals as goal

pub returns : goal.returns
returns c =
    let s = c.self.inside in
    let waiting = c.args.self.now.waiting in
    subst (λ n. IsTrue (nat_lt s.shown n) ↔ (waiting ≢ [])) (sym c.len.ensures.count) (waits_if s.shown s.writes waiting (ap (λ (g : Gathering). g.waiting) c.self.view_is))

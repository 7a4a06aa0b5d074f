use Rattle.std.proofs.Common.{◌≡◌, [], sym, ap, ◌∙◌}
use Rattle.std.proofs.lemmas.Bool.{false≢true}
use Rattle.uc_memtable.proofs.Gathered.{none_waits}
use Rattle.uc_live.specs.Lives.{Live}
use Rattle.uc_live.proofs.live_store.LiveStore.settle.Goals as goal

pub returns-then-not-is_waiting : goal.returns-then-not-is_waiting
returns-then-not-is_waiting g c =
    let waiting = c.self.inside.active.waiting in
    let none : waiting ≡ [] = none_waits waiting (λ some. false≢true (c.if-not-is_waiting.ensures.1 some)) in
    (c.flush.ensures.prepares.0, c.flush.ensures.prepares.1 ∙ sym none ∙ ap (λ (l : Live). l.prepared) c.self.view_is)

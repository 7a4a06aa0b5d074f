use Rattle.std.proofs.Common.{ap, ◌∙◌}
use Rattle.std.proofs.lemmas.Bool.{false≢true}
use Rattle.uc_memtable.specs.Gathering.{Gathered}
use Rattle.uc_memtable.proofs.AllGathered.{front_none}
use Rattle.uc_memtable.proofs.flushable_memtables.FlushableMemtables.is_empty.Goals as goal

pub returns-else-is_empty : goal.returns-else-is_empty
returns-else-is_empty c = (
  λ e. absurd (false≢true (search (c.if-is_empty, e))),
  λ none. c.is_empty.ensures.1 (front_none c.self.inside.apart c.self.inside.behind.shown (ap (λ (g : Gathered). g.shown) c.self.view_is ∙ none)),
)

use Rattle.std.proofs.Common.{ap, ◌∙◌}
use Rattle.std.proofs.lemmas.Bool.{false≢true}
use Rattle.uc_memtable.specs.Gathering.{Gathering}
use Rattle.uc_memtable.proofs.AllGathered.{front_none}
use Rattle.uc_memtable.proofs.gathered_memtables.GatheredMemtables.is_empty.Goals as goal

pub returns-else-is_empty : goal.returns-else-is_empty
returns-else-is_empty c = (
  λ e. absurd (false≢true (search (c.if-is_empty, e))),
  λ none. c.is_empty.ensures.1 (front_none c.self.inside.frozen c.self.inside.active.shown (ap (λ (g : Gathering). g.shown) c.self.view_is ∙ none)),
)

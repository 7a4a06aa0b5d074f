use Rattle.std.proofs.Common.{ℕ, List, map, subst}
use Rattle.uc_run_entry.specs.Order.{IsFalling}
use Rattle.uc_compact.proofs.Best.{together_falls}
use Rattle.uc_compact.proofs.over.Over.recall_falling.Goals as goal

pub returns : goal.returns
returns c = subst (λ (seqs : List ℕ). IsFalling seqs) c.self.view_is (together_falls (map (λ seqs. seqs.now) c.self.inside.lists.now))

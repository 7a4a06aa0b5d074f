use Rattle.std.proofs.Common.{ℕ, List, [], subst}
use Rattle.std.specs.Arc.{arc_value}
use Rattle.std.specs.List.{AllByRecursion}
use Rattle.uc_run_entry.specs.Spans.{IsFalling}
use Rattle.uc_run_entry.proofs.Listed.{all_at}
use Rattle.uc_run_entry.proofs.share.Share.recall_falling.Goals as goal

pub returns : goal.returns
returns c =
    subst (λ (seqs : List ℕ). IsFalling seqs) c.self.view_is
    (all_at IsFalling (arc_value c.self.inside.spans) c.self.inside.fragment [] (subst (λ (xss : List (List ℕ)). AllByRecursion IsFalling xss) c.deref.ensures c.fragments.ensures.falling) c.self.invariant)

use Rattle.std.proofs.Common.{ℕ, length, List, ap, sym, ◌∙◌, subst}
use Rattle.std.specs.List.{AllByRecursion}
use Rattle.uc_run_entry.specs.Spans.{IsFalling}
use Rattle.uc_run_entry.proofs.Listed.{length-listed, listed_fall}
use Rattle.uc_run_entry.proofs.spans.Spans.fragments.Goals as goal

pub returns-clause-count : goal.returns-clause-count
returns-clause-count c =
    sym (length-listed c.self.inside.fragments c.self.inside.spans.items) ∙ ap (λ (xss : List (List ℕ)). length xss) c.self.view_is

pub returns-clause-falling : goal.returns-clause-falling
returns-clause-falling c =
    subst (λ (xss : List (List ℕ)). AllByRecursion IsFalling xss) c.self.view_is (listed_fall c.self.inside.fragments c.self.inside.spans.items)

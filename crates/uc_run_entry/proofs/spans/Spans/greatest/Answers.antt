use Rattle.std.proofs.Common.{◌≡◌, ℕ, List, Option, ap, sym, ◌∙◌, subst}
use Rattle.std.specs.List.{AllByRecursion}
use Rattle.uc_run_entry.specs.declared.span.Span.{Span}
use Rattle.uc_run_entry.specs.Ahead.{ahead}
use Rattle.uc_run_entry.specs.Spans.{first_seq}
use Rattle.uc_run_entry.proofs.Listed.{greatest_of_all}
use Rattle.uc_run_entry.proofs.spans.Spans.greatest.Goals as goal

pub returns : goal.returns
returns c =
    let first : c.first_seq.result ≡ first_seq c.self.inside.spans.items = c.first_seq.ensures ∙ ap (λ (ss : List Span). first_seq ss) c.deref.ensures.value in
    subst (λ (o : Option ℕ). AllByRecursion (λ (seqs : List ℕ). ahead o seqs ≡ seqs) c.args.self.now) (sym first)
    (subst (λ (xss : List (List ℕ)). AllByRecursion (λ (seqs : List ℕ). ahead (first_seq c.self.inside.spans.items) seqs ≡ seqs) xss) c.self.view_is
    (greatest_of_all c.self.inside.fragments c.self.inside.spans.items c.self.invariant.joined))

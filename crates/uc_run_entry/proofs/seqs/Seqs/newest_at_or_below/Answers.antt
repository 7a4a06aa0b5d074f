use Rattle.std.proofs.Common.{◌≡◌, ℕ, List, [], ◌∷◌, ap, sym, ◌∙◌, subst}
use Rattle.uc_run_entry.specs.declared.seqs.Kind.{Kind}
use Rattle.uc_run_entry.specs.Seqs.{seqs_of}
use Rattle.uc_run_entry.specs.Spans.{IsFalling}
use Rattle.uc_run_entry.proofs.Neighbours.{falling_descends}
use Rattle.uc_run_entry.proofs.seqs.Seqs.newest_at_or_below.Goals as goal

pub newest_at_or_below-requires : goal.newest_at_or_below-requires
newest_at_or_below-requires c =
    let one : c.args.self.now ≡ c.in-One.seq ∷ [] = sym c.self.view_is ∙ ap (λ (kind : Kind). seqs_of kind) c.in-One.is in
    falling_descends c.from_ref.result.now (subst (λ (seqs : List ℕ). IsFalling seqs) (one ∙ sym c.from_ref.ensures.value) c.requires)

pub newest_at_or_below-requires-in-Few : goal.newest_at_or_below-requires-in-Few
newest_at_or_below-requires-in-Few c =
    let few : c.args.self.now ≡ c.in-Few.list = sym c.self.view_is ∙ ap (λ (kind : Kind). seqs_of kind) c.in-Few.is in
    falling_descends c.as_slice.result.now (subst (λ (seqs : List ℕ). IsFalling seqs) (few ∙ sym c.as_slice.ensures) c.requires)

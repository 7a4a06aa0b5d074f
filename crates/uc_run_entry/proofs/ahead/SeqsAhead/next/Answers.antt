use Rattle.std.proofs.Common.{ℕ, List, [], get_or, drop, Option, ap, ◌∙◌}
use Rattle.uc_run_entry.specs.Ahead.{ahead, after}
use Rattle.uc_run_entry.specs.Spans.{IsFalling}
use Rattle.uc_run_entry.proofs.Listed.{rest_ahead, all_at}
use Rattle.uc_run_entry.proofs.ahead.SeqsAhead.next.Goals as goal

pub returns-clause-rest : goal.returns-clause-rest
returns-clause-rest c =
    let seqs : List ℕ = get_or c.self.inside.spans.now c.self.inside.fragment [] in
    let fall : IsFalling (get_or c.self.inside.spans.now c.self.inside.fragment []) = all_at IsFalling c.self.inside.spans.now c.self.inside.fragment [] c.fragments.ensures.falling c.self.invariant in
    ap (λ (o : Option ℕ). ahead o seqs) (c.after-self-inside.ensures ∙ ap (λ (o : Option ℕ). after o) c.first_ahead-found.ensures)
    ∙ rest_ahead c.self.inside.at seqs fall
    ∙ ap (λ (xs : List ℕ). drop 1 xs) c.self.view_is

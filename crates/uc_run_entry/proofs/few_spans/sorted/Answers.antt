use Rattle.std.proofs.Common.{rules}
use Rattle.std.proofs.lemmas.List.Sorted.{answers_always}
use Rattle.uc_run_entry.proofs.Joins.{sorted_from}
use Rattle.uc_run_entry.proofs.few_spans.sorted.Goals as goal

pub returns-clause-sorted : goal.returns-clause-sorted
returns-clause-sorted c =
    let sorted = c.sort_unstable_by_key.ensures.sorted (λ s. (record { 0 = s.seq }, s.first)) (answers_always _ _ _ (λ f a r g called. search rules)) in
    sorted_from c.sort_unstable_by_key.new.self.items (λ k d l. sorted k d (search rules) l)

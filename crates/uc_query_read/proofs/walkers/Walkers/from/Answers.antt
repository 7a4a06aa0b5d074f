use Rattle.std.proofs.Common.{◌≡◌, false, map, ap, ◌∙◌, subst}
use Rattle.std.specs.Prelude.{All}
use Rattle.std.proofs.lemmas.List.Elements.{recursion_from_All}
use Rattle.uc_run.specs.Cursors.{has_ranges}
use Rattle.uc_run.specs.Heads.{next_key}
use Rattle.uc_query_read.specs.Walks.{newer_of}
use Rattle.uc_query_read.proofs.walkers.Walkers.from.Goals as goal

pub invariant_of-result : goal.invariant_of-result
invariant_of-result c = record {
  of_runs = c.in_ok-cursors.ensures.of_runs;
  heads = c.in_ok-heads.ensures ∙ ap (map next_key) (c.newer_of.ensures ∙ ap newer_of c.deref.ensures.value);
  least = c.least-newer.ensures.least;
  number = c.least-newer.ensures.number;
  plain = λ plain. recursion_from_All (λ s. has_ranges s ≡ false) c.in_ok-cursors.cursors.items (subst (All (λ s. has_ranges s ≡ false)) c.deref-2.ensures.value (c.are_plain-is_plain.ensures plain));
}

use Rattle.std.proofs.Common.{◌≡◌, ℕ, false, List, [], drop, filter, sym, ap, ◌∙◌, subst}
use Rattle.std.specs.List.Sorted.{IsStrictlySortedBy}
use Rattle.std.proofs.lemmas.Bool.{false≢true}
use Rattle.uc_run_entry.specs.declared.entry.Entry.{Entry}
use Rattle.uc_run_entry.specs.Lookup.{is_visible}
use Rattle.uc_run_entry.specs.Order.{entry_cmp}
use Rattle.uc_run_entry.specs.Seek.{seek_place}
use Rattle.uc_run.proofs.Admitting.{none_visible}
use Rattle.uc_run.proofs.OnKey.{none_before}
use Rattle.uc_run.proofs.Rests.{sorted-drop, sorted_none}
use Rattle.uc_run.proofs.places.points_from.Goals as goal

pub returns-then-admits-clause-sorted : goal.returns-then-admits-clause-sorted
returns-then-admits-clause-sorted c =
    let points = c.args.points.now in
    subst (IsStrictlySortedBy entry_cmp) (sym c.found_by_fences.ensures) (sorted-drop entry_cmp (seek_place points c.key.result.now false) points c.requires.sorted)

pub returns-then-admits-clause-visible : goal.returns-then-admits-clause-visible
returns-then-admits-clause-visible c at =
    let points = c.args.points.now in
    ap (λ (es : List Entry). filter (is_visible c.args.key.now at) es) (c.found_by_fences.ensures ∙ ap (λ (k : List ℕ). drop (seek_place points k false) points) c.key.ensures) ∙ sym (none_before c.args.key.now at points c.requires.sorted)

pub returns-else-admits-clause-sorted : goal.returns-else-admits-clause-sorted
returns-else-admits-clause-sorted c =
    let none : c.none.result ≡ [] = c.none.ensures in
    subst (IsStrictlySortedBy entry_cmp) (sym none) (sorted_none entry_cmp)

pub returns-else-admits-clause-visible : goal.returns-else-admits-clause-visible
returns-else-admits-clause-visible c at =
    let none : c.none.result ≡ [] = c.none.ensures in
    ap (λ (es : List Entry). filter (is_visible c.args.key.now at) es) none
    ∙ sym (none_visible c.args.key_filter.now c.args.key.now at (λ has. false≢true (sym c.if-admits.false ∙ c.admits.ensures.1 has)) c.args.points.now c.requires.admitted)

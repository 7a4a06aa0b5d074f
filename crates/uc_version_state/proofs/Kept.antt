-- The sequences that an opening keeps.
use Rattle.std.proofs.Common.{◌≡◌, ◌↔◌, ◌⊎◌, inl, inr, ⊎_elim, ℕ, List, [], ◌∷◌, ◌++◌, fold, Contains, sym, subst}
use Rattle.std.specs.List.{AllByRecursion}
use Rattle.std.specs.List.Sorted.{IsStrictlySortedBy}
use Rattle.std.specs.Ordering.{nat_cmp}
use Rattle.std.specs.BTreeSet.{insert_key}
use Rattle.std.proofs.lemmas.Cmp.{nat_cmp_total}
use Rattle.std.proofs.lemmas.List.Elements.{All-contains_itself, recursion_from_All, Contains-push, Contains-push_cases, Contains-append_left}
use Rattle.std.proofs.lemmas.Map.Lookups.{exact_unsigned}
use Rattle.uc_run_entry.proofs.Sets.{all-insert_key, all_back, sorted_set}
use Rattle.uc_batch.specs.Rising.{last_of}
use Rattle.uc_version_state.specs.Openings.{Opening, rising, opened}
use Rattle.uc_version_state.proofs.Filling.{of_each}

-- what holds of all that is inserted holds of all that comes of it
pub all_kept : (P : ℕ → Type 0) (seqs kept : List ℕ) → AllByRecursion P seqs → AllByRecursion P kept → AllByRecursion P (fold (insert_key nat_cmp) kept seqs)
all_kept P [] kept h k = k
all_kept P (s ∷ seqs) kept h k = all_kept P seqs (insert_key nat_cmp kept s) h.1 (all-insert_key nat_cmp nat_cmp_total P s kept h.0 k)

all_themselves : (seqs : List ℕ) → AllByRecursion (Contains seqs) seqs
all_themselves seqs = recursion_from_All (Contains seqs) seqs (All-contains_itself seqs)

given : (seqs : List ℕ) (seq : ℕ) → Contains (rising seqs) seq → Contains seqs seq
given seqs seq has = of_each (Contains seqs) (rising seqs) (all_kept (Contains seqs) seqs [] (all_themselves seqs) tt) seq has

kept : (seqs : List ℕ) (seq : ℕ) → Contains seqs seq → Contains (rising seqs) seq
kept seqs seq has = of_each (Contains (rising seqs)) seqs (all_back nat_cmp exact_unsigned (Contains (rising seqs)) seqs (all_themselves (rising seqs))) seq has

and_last : (seqs : List ℕ) (last seq : ℕ) → Contains (seqs ++ last ∷ []) seq → Contains seqs seq ⊎ (seq ≡ last)
and_last seqs last seq has = ⊎_elim (λ (c : Contains seqs seq). inl c) (λ (e : last ≡ seq). inr (sym e)) (Contains-push_cases seqs last seq has)

or_last : (seqs : List ℕ) (last seq : ℕ) → Contains seqs seq ⊎ (seq ≡ last) → Contains (seqs ++ last ∷ []) seq
or_last seqs last seq is = ⊎_elim (λ (c : Contains seqs seq). Contains-append_left seqs (last ∷ []) seq c) (λ (e : seq ≡ last). subst (Contains (seqs ++ last ∷ [])) (sym e) (Contains-push seqs last)) is

pub those_given : (o : Opening) (seq : ℕ) → Contains (opened o).keeps seq ↔ (Contains o.keeps seq ⊎ (seq ≡ last_of 0 o.writes))
those_given o seq =
    let last = last_of 0 o.writes in
    ((λ has. and_last o.keeps last seq (given (o.keeps ++ last ∷ []) seq has)), (λ is. kept (o.keeps ++ last ∷ []) seq (or_last o.keeps last seq is)))

pub in_order : (o : Opening) → IsStrictlySortedBy nat_cmp (opened o).keeps
in_order o = sorted_set nat_cmp nat_cmp_total (o.keeps ++ last_of 0 o.writes ∷ [])

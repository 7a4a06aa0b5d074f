-- Whether a sequence is among those that rise.
use Rattle.std.proofs.Common.{◌≡◌, ℕ, ◌<◌, ◌≤◌, List, Contains, length, get_or, refl, sym, ap, ◌∙◌, ⊎_elim, arith}
use Rattle.std.specs.Prelude.{◌↔◌, Result, Ok, Err, IsTrue, is_ok}
use Rattle.std.specs.List.Sorted.{IsStrictlySortedBy, IsBinarySearchResult}
use Rattle.std.specs.Ordering.{nat_cmp}
use Rattle.std.proofs.lemmas.Bool.{cases_eq, cases_lt}
use Rattle.std.proofs.lemmas.List.{get_or_default}
use Rattle.std.proofs.lemmas.List.Sorted.{searched}
use Rattle.std.proofs.lemmas.Map.Keys.{below_from_sorted}

module _ (xs : List ℕ) (x : ℕ) (rise : IsStrictlySortedBy nat_cmp xs) where
  up : (i j : ℕ) → i ≤ j → j < length xs → get_or xs i 0 ≤ get_or xs j 0
  up i j le lt =
      ⊎_elim (λ (e : i ≡ j). let same = ap (λ n. get_or xs n 0) e in omega (arith, same))
      (λ (ne : i ≡ j → ⊥). let below = below_from_sorted xs i j 0 rise (omega (arith, le, ne)) lt in omega (arith, below))
      (cases_eq i j)

  pub is_found : (r : Result ℕ ℕ) → IsBinarySearchResult (λ y. nat_cmp y x) xs r → IsTrue (is_ok r) ↔ Contains xs x
  is_found (Ok i) says =
      let at = searched xs x (Ok i) says up in
      ((λ yes. (i, at.0, get_or_default xs i x 0 at.0 ∙ at.1)), (λ has. refl))
  is_found (Err i) says =
      let gap = searched xs x (Err i) says up in (
        (λ no. absurd cc),
        (λ has. absurd (nowhere gap.1 gap.2 has)),
      )
    where
      nowhere : ((k : ℕ) → k < i → get_or xs k 0 < x) → ((k : ℕ) → i ≤ k → k < length xs → x < get_or xs k 0) → Contains xs x → ⊥
      nowhere before behind has =
          let is = sym (get_or_default xs has.0 x 0 has.1) ∙ has.2 in
          ⊎_elim (λ (lt : has.0 < i). let low = before has.0 lt in omega (arith, low, is)) (λ (le : i ≤ has.0). let high = behind has.0 le has.1 in omega (arith, high, is)) (cases_lt has.0 i)

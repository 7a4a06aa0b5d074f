-- A search of the kept sequences finds whether one of them is there.
use Rattle.std.proofs.Common.{◌≡◌, ℕ, zero, suc, ◌<◌, ◌≤◌, Bool, true, false, ltb, eqb, List, [], ◌∷◌, Result, Ok, Err, length, get_or, refl, sym, arith}
use Rattle.std.specs.Prelude.{MatchResult}
use Rattle.std.specs.List.Sorted.{IsStrictlySortedBy, IsNonDecreasingBy, IsPartitionPoint, IsBinarySearchResult}
use Rattle.std.specs.Result.{is_ok}
use Rattle.std.specs.declared.cmp.Ordering.{Ordering}
use Rattle.std.specs.declared.cmp.Ordering.TheVariants.{Less, Equal, Greater}
use Rattle.std.specs.Ordering.{nat_cmp, ordering_index}
use Rattle.std.proofs.lemmas.Bool.{eq-eqb}
use Rattle.std.proofs.lemmas.Bool.Decides.{nat_tests}
use Rattle.std.proofs.lemmas.List.Elements.{All-get_or, All-from_recursion}
use Rattle.std.proofs.lemmas.List.Folds.{list_any-from_Any, list_any_none}
use Rattle.uc_query_read.specs.Answers.{is_protected}

module _ (at : ℕ) where
  abbrev order : ℕ → Ordering
  order n = nat_cmp n at

  same_by : (n : ℕ) → order n ≡ Equal → n ≡ at
  same_by n e = grind (arith, nat_tests)

  less_no : (n : ℕ) → order n ≡ Less → eqb n at ≡ false
  less_no n e = grind (arith, nat_tests)

  greater_no : (n : ℕ) → order n ≡ Greater → eqb n at ≡ false
  greater_no n e = grind (arith, nat_tests)

  lt_by : (k i : ℕ) → ltb k i ≡ true → k < i
  lt_by k i e = grind (arith, nat_tests)

  le_by : (k i : ℕ) → ltb k i ≡ false → i ≤ k
  le_by k i e = grind (arith, nat_tests)

  rises_by : (m n : ℕ) → nat_cmp m n ≡ Less → ordering_index (order m) ≤ ordering_index (order n)
  rises_by m n e = by (order m) (order n) refl refl
    where
      by : (o p : Ordering) → nat_cmp m at ≡ o → nat_cmp n at ≡ p → ordering_index o ≤ ordering_index p
      by Less p f g = omega arith
      by Equal Less f g = absurd (grind (arith, nat_tests))
      by Equal Equal f g = omega arith
      by Equal Greater f g = omega arith
      by Greater Less f g = absurd (grind (arith, nat_tests))
      by Greater Equal f g = absurd (grind (arith, nat_tests))
      by Greater Greater f g = omega arith

  rising_index : (keeps : List ℕ) → IsStrictlySortedBy nat_cmp keeps → IsNonDecreasingBy (λ n. ordering_index (order n)) keeps
  unfolding IsStrictlySortedBy
  rising_index [] rise i j d le l = absurd (omega (arith, l))
  rising_index (n ∷ ns) rise zero zero d le l = omega arith
  rising_index (n ∷ ns) rise zero (suc j) d le l =
      rises_by n (get_or ns j d) (All-get_or (λ k. nat_cmp n k ≡ Less) ns j d (omega (arith, l)) (All-from_recursion (λ k. nat_cmp n k ≡ Less) ns rise.0))
  rising_index (n ∷ ns) rise (suc i) zero d le l = absurd (omega (arith, le))
  rising_index (n ∷ ns) rise (suc i) (suc j) d le l = rising_index ns rise.1 i j d (omega (arith, le)) (omega (arith, l))

  pub protected_by : (keeps : List ℕ) → IsStrictlySortedBy nat_cmp keeps → (r : Result ℕ ℕ) → MatchResult r (λ i. i < length keeps) (λ i. i ≤ length keeps) → IsBinarySearchResult order keeps r → is_ok r ≡ is_protected keeps at
  protected_by keeps rise (Ok i) within here =
      let same = same_by (get_or keeps i at) (here at) in
      sym (list_any-from_Any (λ keep. eqb keep at) keeps (i, at, within, same, eq-eqb at at refl))
  protected_by keeps rise (Err i) within split =
      sym (list_any_none (λ keep. eqb keep at) keeps (λ k d l. none_by k d l (ltb k i) refl))
    where
      parts : IsPartitionPoint (λ n. order n ≡ Less) (λ n. order n ≡ Greater) keeps i
      parts = split (rising_index keeps rise)

      none_by : (k d : ℕ) → k < length keeps → (b : Bool) → ltb k i ≡ b → eqb (get_or keeps k d) at ≡ false
      none_by k d l true e = less_no (get_or keeps k d) (parts.0 k d (omega arith) (lt_by k i e))
      none_by k d l false e = greater_no (get_or keeps k d) (parts.1 k d (le_by k i e) l)

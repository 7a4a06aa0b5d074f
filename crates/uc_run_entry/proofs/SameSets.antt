-- Lists in strict order that have the same elements are equal.
use Rattle.std.proofs.Common.{◌≡◌, List, [], ◌∷◌, fold, true, refl, sym, ap, ◌∙◌, subst}
use Rattle.std.specs.List.{AllByRecursion}
use Rattle.std.specs.List.Sorted.{IsStrictlySortedBy, IsPermutation}
use Rattle.std.specs.declared.cmp.Ordering.{Ordering}
use Rattle.std.specs.declared.cmp.Ordering.TheVariants.{Less, Equal, Greater}
use Rattle.std.specs.Ordering.{is_lt, is_le, ordering_reverse}
use Rattle.std.specs.Cmp.{IsTotalOrder}
use Rattle.std.specs.BTreeSet.{insert_key}
use Rattle.std.proofs.lemmas.Bool.{false≢true}
use Rattle.std.proofs.lemmas.Cmp.{tied_itself}
use Rattle.std.proofs.lemmas.List.Elements.{All-from_recursion, recursion_from_All}
use Rattle.std.proofs.lemmas.List.Sorted.{All-permutation}
use Rattle.uc_run_entry.proofs.Sets.{all-insert_key, sorted_set, all_back}

-- what holds of all of one list holds of all of the other
abbrev pub Passes : {K : Type 0} → List K → List K → Type 1
Passes {K} xs ys = (P : K → Type 0) → AllByRecursion P xs → AllByRecursion P ys

pub all_same : {K : Type 0} {P Q : K → Type 0} → ((x : K) → P x → Q x) → (xs : List K) → AllByRecursion P xs → AllByRecursion Q xs
all_same f [] h = tt
all_same f (x ∷ xs) h = (f x h.0, all_same f xs h.1)

all_given : {K : Type 0} (P Q : K → Type 0) (xs : List K) → AllByRecursion P xs → AllByRecursion (λ x. P x → Q x) xs → AllByRecursion Q xs
all_given P Q [] h k = tt
all_given P Q (x ∷ xs) h k = (k.0 h.0, all_given P Q xs h.1 k.1)

pub permutation_passes : {K : Type 0} (xs ys : List K) → IsPermutation xs ys → Passes xs ys
permutation_passes xs ys moved P h = recursion_from_All P ys (All-permutation P xs ys moved (All-from_recursion P xs h))

module _ {K : Type 0} (cmp : K → K → Ordering) (total : IsTotalOrder cmp) (exact : (x y : K) → cmp x y ≡ Equal → x ≡ y) where
  abbrev Sorted : List K → Type 0
  Sorted xs = IsStrictlySortedBy cmp xs

  le_itself : (x : K) → is_le (cmp x x) ≡ true
  le_itself x = ap is_le (tied_itself total x)

  not_below_itself : (x : K) → cmp x x ≡ Less → ⊥
  not_below_itself x e = false≢true (sym (ap is_lt (tied_itself total x)) ∙ ap is_lt e)

  le_all : (x : K) (xs : List K) → Sorted (x ∷ xs) → AllByRecursion (λ y. is_le (cmp x y) ≡ true) (x ∷ xs)
  unfolding IsStrictlySortedBy
  le_all x xs h = (le_itself x, all_same (λ y e. ap is_le e) xs h.0)

  le_both : (x y : K) (o : Ordering) → cmp x y ≡ o → is_le o ≡ true → is_le (cmp y x) ≡ true → x ≡ y
  le_both x y Less e to back = absurd (false≢true (sym (ap is_le (total.antisymm y x ∙ ap ordering_reverse e)) ∙ back))
  le_both x y Equal e to back = exact x y e
  le_both x y Greater e to back = absurd (false≢true to)

  -- without the head that both have
  passes_rest : (x : K) (xs ys : List K) → Sorted (x ∷ ys) → Passes (x ∷ xs) (x ∷ ys) → Passes xs ys
  unfolding IsStrictlySortedBy
  passes_rest x xs ys sorted to P h =
      all_given (λ y. cmp x y ≡ Less) P ys sorted.0
      (to (λ y. cmp x y ≡ Less → P y) ((λ e. absurd (not_below_itself x e)), all_same (λ y p _. p) xs h)).1

  pub same_sorted : (xs ys : List K) → Sorted xs → Sorted ys → Passes xs ys → Passes ys xs → xs ≡ ys
  unfolding IsStrictlySortedBy
  same_sorted [] [] a b to back = refl
  same_sorted [] (y ∷ ys) a b to back = absurd ((to (λ _. ⊥) tt).0)
  same_sorted (x ∷ xs) [] a b to back = absurd ((back (λ _. ⊥) tt).0)
  same_sorted (x ∷ xs) (y ∷ ys) a b to back =
      let e : x ≡ y = le_both x y (cmp x y) refl (to (λ z. is_le (cmp x z) ≡ true) (le_all x xs a)).0 (back (λ z. is_le (cmp y z) ≡ true) (le_all y ys b)).0 in
      let c : IsStrictlySortedBy cmp (x ∷ ys) = subst (λ z. IsStrictlySortedBy cmp (z ∷ ys)) (sym e) b in
      ap (λ (zs : List K). x ∷ zs)
      (same_sorted xs ys a.1 b.1
      (passes_rest x xs ys c (λ P h. subst (λ z. AllByRecursion P (z ∷ ys)) (sym e) (to P h)))
      (passes_rest x ys xs a (λ P h. back P (subst (λ z. AllByRecursion P (z ∷ ys)) e h))))
      ∙ ap (λ (z : K). z ∷ ys) e

  all-fold : (P : K → Type 0) (xs acc : List K) → AllByRecursion P acc → AllByRecursion P xs → AllByRecursion P (fold (insert_key cmp) acc xs)
  all-fold P [] acc h k = h
  all-fold P (x ∷ xs) acc h k = all-fold P xs (insert_key cmp acc x) (all-insert_key cmp total P x acc k.0 h) k.1

  pub all_inserted : (P : K → Type 0) (xs : List K) → AllByRecursion P xs → AllByRecursion P (fold (insert_key cmp) [] xs)
  all_inserted P xs h = all-fold P xs [] tt h

  -- what is inserted counts, and not its order
  pub same_set : (xs ys : List K) → Passes xs ys → Passes ys xs → fold (insert_key cmp) [] xs ≡ fold (insert_key cmp) [] ys
  same_set xs ys to back =
      same_sorted (fold (insert_key cmp) [] xs) (fold (insert_key cmp) [] ys) (sorted_set cmp total xs) (sorted_set cmp total ys)
      (λ P h. all_inserted P ys (to P (all_back cmp exact P xs h)))
      (λ P h. all_inserted P xs (back P (all_back cmp exact P ys h)))

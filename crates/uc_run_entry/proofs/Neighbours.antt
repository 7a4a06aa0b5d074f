-- Lists of which each element stands before the next.
use Rattle.std.proofs.Common.{◌≡◌, ℕ, zero, suc, ◌+◌, ◌<◌, ◌≤◌, Bool, true, false, ltb, IsTrue, List, [], ◌∷◌, length, get_or, refl, sym, ◌∙◌, arith}
use Rattle.std.specs.Prelude.{◌↔◌}
use Rattle.std.specs.List.{AllByRecursion, IsAllAdjacentAnswer}
use Rattle.std.specs.List.Sorted.{IsStrictlySortedBy}
use Rattle.std.specs.declared.cmp.Ordering.{Ordering}
use Rattle.std.specs.declared.cmp.Ordering.TheVariants.{Less}
use Rattle.std.specs.Ordering.{nat_cmp, flip_args}
use Rattle.std.specs.Cmp.{IsTotalOrder}
use Rattle.std.proofs.lemmas.Bool.{false≢true}
use Rattle.std.proofs.lemmas.Bool.Decides.{nat_tests}
use Rattle.std.proofs.lemmas.Cmp.{nat_cmp_total, back_total}
use Rattle.uc_run_entry.specs.Newest.{Descends}
use Rattle.uc_run_entry.specs.Spans.{IsFalling}
use Rattle.uc_run_entry.proofs.SameSets.{all_same}

-- each element is related to all those after it
abbrev pub AllPairs : {X : Type 0} → (X → X → Type 0) → List X → Type 0
AllPairs {X} R [] = Unit {0}
AllPairs {X} R (x ∷ xs) = AllByRecursion (R x) xs × AllPairs R xs

module _ {X : Type 0} (R : X → X → Type 0) (trans : (x y z : X) → R x y → R y z → R x z) where
  before_all : (x y : X) (zs : List X) → R x y → AllByRecursion (R y) zs → AllByRecursion (R x) zs
  before_all x y [] first h = tt
  before_all x y (z ∷ zs) first h = (trans x y z first h.0, before_all x y zs first h.1)

  abbrev Neighbours : List X → Type 0
  Neighbours xs = (k : ℕ) (d : X) → suc k < length xs → R (get_or xs k d) (get_or xs (suc k) d)

  from_neighbours : (xs : List X) → Neighbours xs → AllPairs R xs
  from_neighbours [] h = tt
  from_neighbours (x ∷ []) h = (tt, tt)
  from_neighbours (x ∷ y ∷ zs) h =
      let rest : AllPairs R (y ∷ zs) = from_neighbours (y ∷ zs) (λ k d l. h (suc k) d (omega arith)) in
      let first : R x y = h 0 x (omega arith) in
      ((first, before_all x y zs first rest.0), rest)

  to_neighbours : (xs : List X) → AllPairs R xs → Neighbours xs
  to_neighbours [] all k d l = absurd (omega arith)
  to_neighbours (x ∷ []) all k d l = absurd (omega arith)
  to_neighbours (x ∷ y ∷ zs) all zero d l = all.0.0
  to_neighbours (x ∷ y ∷ zs) all (suc k) d l = to_neighbours (y ∷ zs) all.1 k d (omega arith)

  -- what a test of all neighbours answers
  module _ (test : X → X → Bool) (tells : (x y : X) → IsTrue (test x y) ↔ R x y) where
    pub pairs_by : (xs : List X) (b : Bool) → IsAllAdjacentAnswer (λ x y r. r ≡ test x y) xs b → IsTrue b ↔ AllPairs R xs
    pairs_by xs true h = (
      (λ t. from_neighbours xs (λ k d l. let e : k + 1 ≡ suc k = omega arith in (tells (get_or xs k d) (get_or xs (suc k) d)).0 (sym (rw e at (h k d (omega arith)))))),
      (λ all. refl),
    )
    pairs_by xs false h = (
      (λ t. absurd (false≢true t)),
      (λ all.
          let e : h.0 + 1 ≡ suc h.0 = omega arith in
          let l : suc h.0 < length xs = omega (arith, h.1) in
          absurd (no_pair xs h.0 l (λ d. rw e at (h.2 d)) all)),
    )
      where
        no_pair : (xs : List X) (k : ℕ) → suc k < length xs → ((d : X) → false ≡ test (get_or xs k d) (get_or xs (suc k) d)) → AllPairs R xs → ⊥
        no_pair [] k l fails all = omega arith
        no_pair (x ∷ xs) k l fails all = false≢true (fails x ∙ (tells (get_or (x ∷ xs) k x) (get_or (x ∷ xs) (suc k) x)).1 (to_neighbours (x ∷ xs) all k x l))

-- the same as std says it of an order
sorted_is : {K : Type 0} (cmp : K → K → Ordering) (xs : List K) → AllPairs (λ x y. cmp x y ≡ Less) xs → IsStrictlySortedBy cmp xs
unfolding IsStrictlySortedBy
sorted_is cmp [] h = tt
sorted_is cmp (x ∷ xs) h = (h.0, sorted_is cmp xs h.1)

is_sorted : {K : Type 0} (cmp : K → K → Ordering) (xs : List K) → IsStrictlySortedBy cmp xs → AllPairs (λ x y. cmp x y ≡ Less) xs
unfolding IsStrictlySortedBy
is_sorted cmp [] h = tt
is_sorted cmp (x ∷ xs) h = (h.0, is_sorted cmp xs h.1)

pub sorted_by : {K : Type 0} (cmp : K → K → Ordering) → IsTotalOrder cmp → (test : K → K → Bool) → ((x y : K) → IsTrue (test x y) ↔ (cmp x y ≡ Less)) → (xs : List K) (b : Bool) → IsAllAdjacentAnswer (λ x y r. r ≡ test x y) xs b → IsTrue b ↔ IsStrictlySortedBy cmp xs
sorted_by cmp total test tells xs b h =
    let by : IsTrue b ↔ AllPairs (λ x y. cmp x y ≡ Less) xs = pairs_by (λ x y. cmp x y ≡ Less) total.trans test tells xs b h in
    ((λ t. sorted_is cmp xs (by.0 t)), (λ s. by.1 (is_sorted cmp xs s)))

pub falling_by : (ns : List ℕ) (b : Bool) → IsAllAdjacentAnswer (λ x y r. r ≡ ltb y x) ns b → IsTrue b ↔ IsFalling ns
falling_by ns b h = sorted_by (flip_args nat_cmp) (back_total nat_cmp_total) (λ x y. ltb y x) tells ns b h
  where
    tells : (x y : ℕ) → IsTrue (ltb y x) ↔ (nat_cmp y x ≡ Less)
    tells x y = ((λ t. grind (arith, nat_tests)), (λ e. grind (arith, nat_tests)))

-- sequences that fall descend
no_more : (x y : ℕ) → flip_args nat_cmp x y ≡ Less → y ≤ x
no_more x y e = grind (arith, nat_tests)

pub falling_descends : (seqs : List ℕ) → IsFalling seqs → Descends seqs
unfolding IsStrictlySortedBy
falling_descends [] h = tt
falling_descends (x ∷ seqs) h = (all_same (λ y e. no_more x y e) seqs h.0, falling_descends seqs h.1)

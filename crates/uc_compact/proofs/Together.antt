-- Runs that stand newest first.
use Rattle.std.proofs.Common.{◌≡◌, ℕ, zero, suc, ◌+◌, ◌-◌, ◌<◌, ◌≤◌, Bool, true, false, IsTrue, List, [], ◌∷◌, length, get_or, map, take, refl, sym, ap, ◌∙◌, subst, arith}
use Rattle.std.specs.Prelude.{◌↔◌, slice_index_or}
use Rattle.std.specs.List.{AllByRecursion, IsAllAdjacentAnswer}
use Rattle.std.proofs.lemmas.Bool.{false≢true}
use Rattle.std.proofs.lemmas.List.{map-append, take_more}
use Rattle.uc_run_entry.specs.Run.{Contents}
use Rattle.uc_compact.specs.Inputs.{AreRuns, AreNewestFirst, low_of}
use Rattle.uc_compact.proofs.NestedLists.{all-append}

-- one element more of which all hold
pub one_more : {X Y : Type 0} (f : X → Y) (P : Y → Type 0) (xs : List X) (i : ℕ) (x : X) → i < length xs → x ≡ slice_index_or xs i x → P (f x) → AllByRecursion P (map f (take i xs)) → AllByRecursion P (map f (take (i + 1) xs))
one_more f P xs i x lt e p h =
    subst (λ ys. AllByRecursion P (map f ys)) (sym (take_more xs i x lt))
    (subst (AllByRecursion P) (sym (map-append f (take i xs) (get_or xs i x ∷ [])))
    (all-append P (map f (take i xs)) (f (get_or xs i x) ∷ []) h (subst (λ y. P (f y)) e p, tt)))

module _ {X : Type 0} (value : X → Contents) where
  abbrev pub Above : X → X → Type 0
  Above x y = (value y).high < (value x).low

  abbrev pub HasRange : X → Type 0
  HasRange x = (value x).low ≤ (value x).high

  lower : (x y : X) (zs : List X) → HasRange y → Above x y → AllByRecursion (λ r. r.high < (value y).low) (map value zs) → AllByRecursion (λ r. r.high < (value x).low) (map value zs)
  lower x y [] range first h = tt
  lower x y (z ∷ zs) range first h = let below : (value z).high < (value y).low = h.0 in (omega (arith, range, first, below), lower x y zs range first h.1)

  abbrev Neighbours : List X → Type 0
  Neighbours xs = (k : ℕ) (d : X) → suc k < length xs → Above (get_or xs k d) (get_or xs (suc k) d)

  from_neighbours : (xs : List X) → AllByRecursion HasRange xs → Neighbours xs → AreNewestFirst (map value xs)
  from_neighbours [] range h = tt
  from_neighbours (x ∷ []) range h = (tt, tt)
  from_neighbours (x ∷ y ∷ zs) range h =
      let rest : AreNewestFirst (map value (y ∷ zs)) = from_neighbours (y ∷ zs) range.1 (λ k d l. h (suc k) d (omega (arith, l))) in
      let first : Above x y = h 0 x (omega arith) in
      ((first, lower x y zs range.1.0 first rest.0), rest)

  no_pair : (xs : List X) → AreNewestFirst (map value xs) → Neighbours xs
  no_pair [] all k d l = absurd (omega (arith, l))
  no_pair (x ∷ []) all k d l = absurd (omega (arith, l))
  no_pair (x ∷ y ∷ zs) all zero d l = all.0.0
  no_pair (x ∷ y ∷ zs) all (suc k) d l = no_pair (y ∷ zs) all.1 k d (omega (arith, l))

  -- what a test of all neighbours answers
  module _ (test : X → X → Bool) (tells : (x y : X) → IsTrue (test x y) ↔ Above x y) where
    pub newest_first_by : (xs : List X) (b : Bool) → AllByRecursion HasRange xs → IsAllAdjacentAnswer (λ x y r. r ≡ test x y) xs b → IsTrue b ↔ AreNewestFirst (map value xs)
    newest_first_by xs true range h = (
      (λ t. from_neighbours xs range (λ k d l. let e : k + 1 ≡ suc k = omega arith in (tells (get_or xs k d) (get_or xs (suc k) d)).0 (sym (rw e at (h k d (omega (arith, l))))))),
      (λ all. refl),
    )
    newest_first_by xs false range h = (
      (λ t. absurd (false≢true t)),
      (λ all.
          let e : h.0 + 1 ≡ suc h.0 = omega arith in
          let l : suc h.0 < length xs = omega (arith, h.1) in
          absurd (none xs h.0 l (λ d. rw e at (h.2 d)) all)),
    )
      where
        none : (xs : List X) (k : ℕ) → suc k < length xs → ((d : X) → false ≡ test (get_or xs k d) (get_or xs (suc k) d)) → AreNewestFirst (map value xs) → ⊥
        none [] k l fails all = omega (arith, l)
        none (x ∷ xs) k l fails all = false≢true (fails x ∙ (tells (get_or (x ∷ xs) k x) (get_or (x ∷ xs) (suc k) x)).1 (no_pair (x ∷ xs) all k x l))

pub have_ranges : {X : Type 0} (value : X → Contents) (xs : List X) → AreRuns (map value xs) → AllByRecursion (HasRange value) xs
have_ranges value [] h = tt
have_ranges value (x ∷ xs) h = (h.0.range, have_ranges value xs h.1)

-- the last run is the oldest
pub low_of_last : {X : Type 0} (value : X → Contents) (xs : List X) (x : X) → 0 < length xs → ((d : X) → x ≡ get_or xs (length xs - 1) d) → (value x).low ≡ low_of (map value xs)
low_of_last value [] x some is = absurd (omega (arith, some))
low_of_last value (y ∷ []) x some is = ap (λ z. (value z).low) (is y)
low_of_last {X} value (y ∷ z ∷ zs) x some is =
    low_of_last value (z ∷ zs) x (omega arith) (λ d. let e : length (y ∷ z ∷ zs) - 1 ≡ suc (length (z ∷ zs) - 1) = omega arith in is d ∙ ap (λ n. get_or (y ∷ z ∷ zs) n d) e)

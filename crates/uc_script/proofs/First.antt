-- Where an element of a list first passes a test, and what stands before and after it.
use Rattle.std.proofs.Common.{◌≡◌, ℕ, suc, ◌+◌, ◌<◌, ◌≤◌, Bool, true, false, ltb, List, [], ◌∷◌, length, Some, None, refl, sym, ap, ◌∙◌, arith, inl, inr, one-add, add-one}
use Rattle.std.specs.Prelude.{position}
use Rattle.std.specs.List.{All, position_or_len, before_first, after_first}
use Rattle.std.specs.Option.{option_map}
use Rattle.std.proofs.lemmas.Bool.{cases_lt, ltb-true, lt-ltb, le-ltb, cond-true, cond-false}
use Rattle.std.proofs.lemmas.Option.{cond_some}
use Rattle.std.proofs.lemmas.List.Sums.{fails_before_first}

-- an element that passes is the first
pub position_or_len-yes : {A : Type 0} (p : A → Bool) (x : A) (xs : List A) → p x ≡ true → position_or_len p (x ∷ xs) ≡ 0
position_or_len-yes p x xs h = rw h refl

-- an element that does not counts one
pub position_or_len-no : {A : Type 0} (p : A → Bool) (x : A) (xs : List A) → p x ≡ false → position_or_len p (x ∷ xs) ≡ 1 + position_or_len p xs
position_or_len-no p x xs h = rw h refl

-- a place that was found
pub position_some : {A : Type 0} (p : A → Bool) (xs : List A) (i : ℕ) → position p xs ≡ Some i → (position_or_len p xs < length xs) × (position_or_len p xs ≡ i)
position_some p xs i h =
    let found = cond_some (ltb (position_or_len p xs) (length xs)) (position_or_len p xs) i h in
    (ltb-true (position_or_len p xs) (length xs) found.0, found.1)

-- a place that was not found
pub position_none : {A : Type 0} (p : A → Bool) (xs : List A) → position p xs ≡ None → length xs ≤ position_or_len p xs
position_none p xs h =
    elim (cases_lt (position_or_len p xs) (length xs)) [
      | inl found ↦ absurd (cc (sym h ∙ cond-true (ltb (position_or_len p xs) (length xs)) (Some (position_or_len p xs)) None (lt-ltb (position_or_len p xs) (length xs) found)))
      | inr none ↦ none
    ]

-- nothing passes before a place that was not found
pub none_before : {A : Type 0} (p : A → Bool) (xs : List A) → length xs ≤ position_or_len p xs → All (λ x. p x ≡ false) xs
none_before p xs h k d lt = fails_before_first p xs k d (omega arith)

-- the place in a longer list
pub position-yes : {A : Type 0} (p : A → Bool) (x : A) (xs : List A) → p x ≡ true → position p (x ∷ xs) ≡ Some 0
position-yes p x xs h =
    let at = position_or_len-yes p x xs h in
    let found = cond-true (ltb (position_or_len p (x ∷ xs)) (length (x ∷ xs))) (Some (position_or_len p (x ∷ xs))) None (lt-ltb _ _ (omega (arith, at))) in
    found ∙ ap Some at

pub position-no : {A : Type 0} (p : A → Bool) (x : A) (xs : List A) → p x ≡ false → position p (x ∷ xs) ≡ option_map suc (position p xs)
position-no p x xs h =
    let at = position_or_len-no p x xs h in
    elim (cases_lt (position_or_len p xs) (length xs)) [
      | inl found ↦
          let long = cond-true (ltb (position_or_len p (x ∷ xs)) (length (x ∷ xs))) (Some (position_or_len p (x ∷ xs))) None (lt-ltb _ _ (omega (arith, at))) in
          let short = cond-true (ltb (position_or_len p xs) (length xs)) (Some (position_or_len p xs)) None (lt-ltb _ _ found) in
          long ∙ ap Some (at ∙ one-add _) ∙ sym (ap (option_map suc) short)
      | inr none ↦
          let long = cond-false (ltb (position_or_len p (x ∷ xs)) (length (x ∷ xs))) (Some (position_or_len p (x ∷ xs))) None (le-ltb _ _ (omega (arith, at))) in
          let short = cond-false (ltb (position_or_len p xs) (length xs)) (Some (position_or_len p xs)) None (le-ltb _ _ none) in
          long ∙ sym (ap (option_map suc) short)
    ]

-- what stands before and after it in a longer list
pub before_first-yes : {A : Type 0} (p : A → Bool) (x : A) (xs : List A) → p x ≡ true → before_first p (x ∷ xs) ≡ []
before_first-yes p x xs h = rw h refl

pub before_first-no : {A : Type 0} (p : A → Bool) (x : A) (xs : List A) → p x ≡ false → before_first p (x ∷ xs) ≡ x ∷ before_first p xs
before_first-no p x xs h = rw (h, one-add) refl

pub after_first-yes : {A : Type 0} (p : A → Bool) (x : A) (xs : List A) → p x ≡ true → after_first p (x ∷ xs) ≡ xs
after_first-yes p x xs h = rw h refl

pub after_first-no : {A : Type 0} (p : A → Bool) (x : A) (xs : List A) → p x ≡ false → after_first p (x ∷ xs) ≡ after_first p xs
after_first-no p x xs h = rw (h, one-add, add-one, add-one) refl

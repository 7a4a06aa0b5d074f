-- Two lists, place by place.
use Rattle.std.proofs.Common.{◌≡◌, List, [], ◌∷◌, ◌++◌, length, map, take, drop, refl, subst, inl, inr}
use Rattle.std.specs.List.{AllZip}
use Rattle.uc_query_workers.specs.Given.{SomeZip}

-- what one function makes of each
pub each_mapped : {A B : Type 0} (f : A → B) (xs : List A) → AllZip (λ x y. y ≡ f x) xs (map f xs)
each_mapped f [] = tt
each_mapped f (x ∷ xs) = (refl, each_mapped f xs)

module _ {A B : Type 0} where
  pub all_weaker : (R Q : A → B → Type 0) → ((x : A) (y : B) → R x y → Q x y) → (xs : List A) (ys : List B) → AllZip R xs ys → AllZip Q xs ys
  all_weaker R Q weaker [] [] all = tt
  all_weaker R Q weaker [] (y ∷ ys) all = absurd all
  all_weaker R Q weaker (x ∷ xs) [] all = absurd all
  all_weaker R Q weaker (x ∷ xs) (y ∷ ys) all = (weaker x y all.0, all_weaker R Q weaker xs ys all.1)

  -- a consequence of each place is one of some place
  pub some_tells : (P : A → B → Type 0) (F : Type 0) → ((x : A) (y : B) → P x y → F) → (xs : List A) (ys : List B) → SomeZip P xs ys → F
  some_tells P F tells [] ys some = absurd some
  some_tells P F tells (x ∷ xs) [] some = absurd some
  some_tells P F tells (x ∷ xs) (y ∷ ys) (inl here) = tells x y here
  some_tells P F tells (x ∷ xs) (y ∷ ys) (inr behind) = some_tells P F tells xs ys behind

  -- ---- concatenated lists
  module _ (R : A → B → Type 0) where
    pub all_append : (xs more : List A) (ys given : List B) → AllZip R xs ys → AllZip R more given → AllZip R (xs ++ more) (ys ++ given)
    all_append [] more [] given all others = others
    all_append [] more (y ∷ ys) given all others = absurd all
    all_append (x ∷ xs) more [] given all others = absurd all
    all_append (x ∷ xs) more (y ∷ ys) given all others = (all.0, all_append xs more ys given all.1 others)

    pub all_front : (xs more : List A) (ys : List B) → AllZip R (xs ++ more) ys → AllZip R xs (take (length xs) ys)
    all_front [] more ys all = tt
    all_front (x ∷ xs) more [] all = absurd all
    all_front (x ∷ xs) more (y ∷ ys) all = (all.0, all_front xs more ys all.1)

    pub all_behind : (xs more : List A) (ys : List B) → AllZip R (xs ++ more) ys → AllZip R more (drop (length xs) ys)
    all_behind [] more ys all = all
    all_behind (x ∷ xs) more [] all = absurd all
    all_behind (x ∷ xs) more (y ∷ ys) all = all_behind xs more ys all.1

    -- ---- one more

    -- it holds at an earlier place
    pub some_before : (xs : List A) (ys : List B) (x : A) (y : B) → SomeZip R xs ys → SomeZip R (xs ++ x ∷ []) (ys ++ y ∷ [])
    some_before [] ys x y some = absurd some
    some_before (z ∷ xs) [] x y some = absurd some
    some_before (z ∷ xs) (w ∷ ys) x y (inl here) = inl here
    some_before (z ∷ xs) (w ∷ ys) x y (inr behind) = inr (some_before xs ys x y behind)

    -- it holds at the last place of lists that are as long
    pub some_last : (Q : A → B → Type 0) (xs : List A) (ys : List B) (x : A) (y : B) → AllZip Q xs ys → R x y → SomeZip R (xs ++ x ∷ []) (ys ++ y ∷ [])
    some_last Q [] [] x y all last = inl last
    some_last Q [] (w ∷ ys) x y all last = absurd all
    some_last Q (z ∷ xs) [] x y all last = absurd all
    some_last Q (z ∷ xs) (w ∷ ys) x y all last = inr (some_last Q xs ys x y all.1 last)

  -- ---- which stand together
  abbrev pub Together : List A → List B → A → B → Type 0
  Together xs ys x y = SomeZip (λ a b. (a ≡ x) × (b ≡ y)) xs ys

  -- what holds place by place holds of two that stand together
  pub at_together : (R : A → B → Type 0) (xs : List A) (ys : List B) (x : A) (y : B) → AllZip R xs ys → Together xs ys x y → R x y
  at_together R [] ys x y all some = absurd some
  at_together R (z ∷ xs) [] x y all some = absurd some
  at_together R (z ∷ xs) (w ∷ ys) x y all (inl here) = subst (λ a. R a y) here.0 (subst (λ b. R z b) here.1 all.0)
  at_together R (z ∷ xs) (w ∷ ys) x y all (inr behind) = at_together R xs ys x y all.1 behind

  -- those at each place do, where the lists are as long
  pub all_together : (R : A → B → Type 0) (xs : List A) (ys : List B) → AllZip R xs ys → AllZip (Together xs ys) xs ys
  all_together R [] [] all = tt
  all_together R [] (y ∷ ys) all = absurd all
  all_together R (x ∷ xs) [] all = absurd all
  all_together R (x ∷ xs) (y ∷ ys) all =
      (inl (refl, refl), all_weaker (Together xs ys) (Together (x ∷ xs) (y ∷ ys)) (λ a b behind. inr behind) xs ys (all_together R xs ys all.1))

-- Filters applied after filters.
use Rattle.std.proofs.Common.{◌≡◌, Bool, true, false, cond, List, [], ◌∷◌, filter, refl, sym, ap, ◌∙◌}
use Rattle.std.proofs.lemmas.Bool.{false≢true}

module _ {X : Type 0} where
  swap_head : (p q : X → Bool) (x : X) (xs : List X) (b c : Bool) → p x ≡ b → q x ≡ c → filter p (filter q xs) ≡ filter q (filter p xs) → filter p (cond c (x ∷ filter q xs) (filter q xs)) ≡ filter q (cond b (x ∷ filter p xs) (filter p xs))
  swap_head p q x xs true true e f rest =
      ap (λ d. cond d (x ∷ filter p (filter q xs)) (filter p (filter q xs))) e
      ∙ ap (λ (ys : List X). x ∷ ys) rest
      ∙ sym (ap (λ d. cond d (x ∷ filter q (filter p xs)) (filter q (filter p xs))) f)
  swap_head p q x xs true false e f rest = rest ∙ sym (ap (λ d. cond d (x ∷ filter q (filter p xs)) (filter q (filter p xs))) f)
  swap_head p q x xs false true e f rest = ap (λ d. cond d (x ∷ filter p (filter q xs)) (filter p (filter q xs))) e ∙ rest
  swap_head p q x xs false false e f rest = rest

  pub filter-swap : (p q : X → Bool) (xs : List X) → filter p (filter q xs) ≡ filter q (filter p xs)
  filter-swap p q [] = refl
  filter-swap p q (x ∷ xs) = swap_head p q x xs (p x) (q x) refl refl (filter-swap p q xs)

  implied_head : (p q : X → Bool) (x : X) (xs : List X) (b c : Bool) → p x ≡ b → q x ≡ c → (p x ≡ true → q x ≡ true) → filter p (filter q xs) ≡ filter p xs → filter p (cond c (x ∷ filter q xs) (filter q xs)) ≡ cond b (x ∷ filter p xs) (filter p xs)
  implied_head p q x xs true true e f implies rest = ap (λ d. cond d (x ∷ filter p (filter q xs)) (filter p (filter q xs))) e ∙ ap (λ (ys : List X). x ∷ ys) rest
  implied_head p q x xs true false e f implies rest = absurd (false≢true (sym f ∙ implies e))
  implied_head p q x xs false true e f implies rest = ap (λ d. cond d (x ∷ filter p (filter q xs)) (filter p (filter q xs))) e ∙ rest
  implied_head p q x xs false false e f implies rest = rest

  -- what the stricter test passes of what the weaker one passes
  pub filter-implied : (p q : X → Bool) → ((x : X) → p x ≡ true → q x ≡ true) → (xs : List X) → filter p (filter q xs) ≡ filter p xs
  filter-implied p q implies [] = refl
  filter-implied p q implies (x ∷ xs) = implied_head p q x xs (p x) (q x) refl refl (implies x) (filter-implied p q implies xs)

  pub same_filter : (p q : X → Bool) → ((x : X) → p x ≡ q x) → (xs : List X) → filter p xs ≡ filter q xs
  same_filter p q same [] = refl
  same_filter p q same (x ∷ xs) = ap (λ d. cond d (x ∷ filter p xs) (filter p xs)) (same x) ∙ ap (λ (ys : List X). cond (q x) (x ∷ ys) ys) (same_filter p q same xs)

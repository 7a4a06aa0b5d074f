-- Facts that a search has found.
use Rattle.std.proofs.Common.{◌≡◌, ℕ, zero, suc, ◌+◌, ◌<◌, ◌≤◌, Bool, true, false, ltb, List, [], ◌∷◌, length, get_or, drop, Some, refl, sym, ap, ◌∙◌, subst, arith}
use Rattle.std.specs.List.{AllWithin, HoldsAt, slice_get}
use Rattle.std.specs.List.Sorted.{IsPartitionedBy}
use Rattle.std.proofs.lemmas.Bool.{false≢true}
use Rattle.std.proofs.lemmas.Bool.Decides.{nat_tests}
use Rattle.std.proofs.lemmas.Option.{get_or_from_slice_get, none-some}

module _ {X : Type 0} where
  pub first_at : (xs : List X) (k : ℕ) (x : X) → slice_get (drop k xs) 0 ≡ Some x → slice_get xs k ≡ Some x
  first_at [] zero x e = e
  first_at [] (suc k) x e = e
  first_at (y ∷ xs) zero x e = e
  first_at (y ∷ xs) (suc k) x e = first_at xs k x e

  pub got_within : (xs : List X) (k : ℕ) (x : X) → slice_get xs k ≡ Some x → k < length xs
  got_within [] k x e = absurd (none-some x e)
  got_within (y ∷ xs) zero x e = omega arith
  got_within (y ∷ xs) (suc k) x e = let l : k < length xs = got_within xs k x e in omega (arith, l)

  pub one_more : (P : X → Type 0) (xs : List X) (k : ℕ) (x : X) → AllWithin P xs 0 k → slice_get xs k ≡ Some x → P x → AllWithin P xs 0 (k + 1)
  one_more P xs k x before at holds j d low l = by (ltb j k) refl
    where
      by : (b : Bool) → ltb j k ≡ b → P (get_or xs j d)
      by true e = before j d low (grind (arith, nat_tests))
      by false e =
          let ge : k ≤ j = grind (arith, nat_tests) in
          let same : j ≡ k = omega (arith, ge, l) in
          subst (λ n. P (get_or xs n d)) (sym same) (subst P (sym (get_or_from_slice_get xs k x d at)) holds)

  module _ (test : X → Bool) (xs : List X) (parted : IsPartitionedBy test xs) (middle : ℕ) (x : X) (at : slice_get xs middle ≡ Some x) where
    pub front_passes : test x ≡ true → AllWithin (λ y. test y ≡ true) xs 0 (middle + 1)
    front_passes e j d low l = parted j middle d (omega (arith, l)) (got_within xs middle x at) (ap test (get_or_from_slice_get xs middle x d at) ∙ e)

    pub back_fails : test x ≡ false → AllWithin (λ y. test y ≡ false) xs middle (length xs)
    back_fails e j d low l = by (test (get_or xs j d)) refl
      where
        by : (b : Bool) → test (get_or xs j d) ≡ b → b ≡ false
        by true f = absurd (false≢true (sym e ∙ sym (ap test (get_or_from_slice_get xs middle x d at)) ∙ parted middle j d low l f))
        by false f = refl

-- If all points that pass come first, and the point at `k` is known to fail, then all from `k` on fail.
pub passed_point : {X : Type 0} (test : X → Bool) (xs : List X) (k : ℕ) → IsPartitionedBy test xs → k ≤ length xs → (k < length xs → HoldsAt (λ y. test y ≡ false) xs k) → AllWithin (λ y. test y ≡ false) xs k (length xs)
passed_point test xs k parted le there j d low l = by (test (get_or xs j d)) refl
  where
    by : (b : Bool) → test (get_or xs j d) ≡ b → b ≡ false
    by true f = absurd (false≢true (sym (there (omega (arith, low, l)) d) ∙ parted k j d low l f))
    by false f = refl

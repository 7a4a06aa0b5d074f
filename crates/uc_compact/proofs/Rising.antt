-- Keys that rise, and one more above the last.
use Rattle.std.proofs.Common.{◌≡◌, ℕ, suc, ◌-◌, ◌<◌, ◌≤◌, List, [], ◌∷◌, ◌++◌, length, get_or, map, refl, sym, ap, ◌∙◌, subst, arith}
use Rattle.std.specs.List.{AllByRecursion, HoldsAt}
use Rattle.std.specs.List.Sorted.{IsStrictlySortedBy}
use Rattle.std.specs.declared.cmp.Ordering.TheVariants.{Less}
use Rattle.std.proofs.lemmas.Cmp.{nat_list_cmp_total}
use Rattle.std.proofs.lemmas.List.{map-append}
use Rattle.uc_bytes.specs.Bytes.{bytes_cmp}
use Rattle.uc_compact.proofs.OutputRun.{sorted-append}

module _ {X : Type 0} (key : X → List ℕ) (k : X) where
  abbrev LastIsBelow : List X → Type 0
  LastIsBelow xs = (n : ℕ) (d : X) → suc n ≡ length xs → bytes_cmp (key (get_or xs n d)) (key k) ≡ Less

  all_below : (xs : List X) → IsStrictlySortedBy bytes_cmp (map key xs) → LastIsBelow xs → AllByRecursion (λ x. AllByRecursion (λ y. bytes_cmp x y ≡ Less) (key k ∷ [])) (map key xs)
  unfolding IsStrictlySortedBy
  all_below [] rise last = tt
  all_below (x ∷ []) rise last = ((last 0 x refl, tt), tt)
  all_below (x ∷ y ∷ ys) rise last =
      let rest : AllByRecursion (λ z. AllByRecursion (λ w. bytes_cmp z w ≡ Less) (key k ∷ [])) (map key (y ∷ ys)) = all_below (y ∷ ys) rise.1 (λ n d e. last (suc n) d (ap suc e)) in
      ((nat_list_cmp_total.trans (key x) (key y) (key k) rise.0.0 rest.0.0, tt), rest)

  one : IsStrictlySortedBy bytes_cmp (key k ∷ [])
  unfolding IsStrictlySortedBy
  one = (tt, tt)

  pub rises_on : (xs : List X) → IsStrictlySortedBy bytes_cmp (map key xs) → LastIsBelow xs → IsStrictlySortedBy bytes_cmp (map key (xs ++ k ∷ []))
  rises_on xs rise last =
      subst (IsStrictlySortedBy bytes_cmp) (sym (map-append key xs (k ∷ [])))
      (sorted-append bytes_cmp (map key xs) (key k ∷ []) rise one (all_below xs rise last))

  -- a key after none, or after a last one below it, as a search of the last one finds it
  pub rises_first : (seen xs : List X) → seen ≡ xs → length seen ≤ 0 → IsStrictlySortedBy bytes_cmp (map key xs) → IsStrictlySortedBy bytes_cmp (map key (xs ++ k ∷ []))
  rises_first seen xs same none rise = rises_on xs rise (λ n d e. absurd (let long : length seen ≡ length xs = ap length same in omega (arith, e, long, none)))

  pub rises_above : (seen xs : List X) (last : X) → seen ≡ xs → (0 < length seen) × HoldsAt (λ y. last ≡ y) seen (length seen - 1) → bytes_cmp (key last) (key k) ≡ Less → IsStrictlySortedBy bytes_cmp (map key xs) → IsStrictlySortedBy bytes_cmp (map key (xs ++ k ∷ []))
  rises_above seen xs last same there less rise =
      rises_on xs rise
      (λ n d e. let long : length seen ≡ length xs = ap length same in
      let place : length seen - 1 ≡ n = omega (arith, e, long) in
      let at : last ≡ get_or xs n d = there.1 d ∙ ap (λ (ys : List X). get_or ys (length seen - 1) d) same ∙ ap (λ i. get_or xs i d) place in
      ap (λ x. bytes_cmp (key x) (key k)) (sym at) ∙ less)

pub none_rise : {X : Type 0} (key : X → List ℕ) (xs : List X) → xs ≡ [] → IsStrictlySortedBy bytes_cmp (map key xs)
unfolding IsStrictlySortedBy
none_rise {X} key xs none = subst (λ (ys : List X). IsStrictlySortedBy bytes_cmp (map key ys)) (sym none) tt

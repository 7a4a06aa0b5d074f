-- Numbers after a front rise with the keys.
use Rattle.std.proofs.Common.{◌≡◌, ℕ, ◌-◌, ◌^◌, ◌<◌, ◌≤◌, Bool, true, false, cond, List, [], ◌∷◌, ◌++◌, length, take, drop, refl, sym, ap, ◌∙◌, arith}
use Rattle.std.specs.declared.cmp.Ordering.{Ordering}
use Rattle.std.specs.declared.cmp.Ordering.TheVariants.{Less, Equal, Greater}
use Rattle.std.specs.Ordering.{nat_cmp, ordering_then, ordering_reverse, is_lt, is_le}
use Rattle.std.specs.BTreeMap.Comparable.{le_lt_trans}
use Rattle.std.proofs.lemmas.Bool.{false≢true}
use Rattle.std.proofs.lemmas.Bool.Decides.{nat_tests}
use Rattle.std.proofs.lemmas.Cmp.{nat_list_cmp_total}
use Rattle.std.proofs.lemmas.List.{append-nil}
use Rattle.std.proofs.lemmas.Map.Lookups.{exact_bytes}
use Rattle.uc_bytes.specs.Bytes.{bytes_cmp, same_bytes}
use Rattle.uc_run.specs.Heads.{number_of}
use Rattle.uc_run.specs.Prefixes.{prefix_of, AreBytes}
use Rattle.uc_run.proofs.Decided.{behind_begin}
use Rattle.uc_run.proofs.Fronts.{behind_front, other_front}
use Rattle.uc_run.proofs.KeyOrder.{le_of_not, lt_of}
use Rattle.uc_run.proofs.PrefixOrder.{bytes_behind, prefix_le, prefix_bound}

-- what begins with a front isn't below it
not_below : (front rest : List ℕ) → bytes_cmp (front ++ rest) front ≡ Less → ⊥
not_below [] [] e = absurd cc
not_below [] (x ∷ rest) e = absurd cc
not_below (z ∷ front) rest e =
    let tie : nat_cmp z z ≡ Equal = grind (arith, nat_tests) in
    not_below front rest (sym (ap (λ o. ordering_then o (bytes_cmp (front ++ rest) front)) tie) ∙ e)

-- two keys aren't each below the other
not_both : (x y : List ℕ) → is_le (bytes_cmp x y) ≡ true → bytes_cmp y x ≡ Less → ⊥
not_both x y le e = false≢true (sym (ap is_le (nat_list_cmp_total.antisymm x y ∙ ap ordering_reverse e)) ∙ le)

module _ (front : List ℕ) where
  abbrev begins : List ℕ → Bool
  begins key = same_bytes (take (length front) key) front

  abbrev rest : List ℕ → List ℕ
  rest key = drop (length front) key

  abbrev number_by : Bool → Bool → List ℕ → ℕ
  number_by starts below key = cond starts (prefix_of (rest key)) (cond below 0 (2 ^ 64 - 1))

  parts : (key : List ℕ) → begins key ≡ true → key ≡ front ++ rest key
  parts key e = behind_begin key front (rest key) e refl

  rests_le : (x y : List ℕ) → begins x ≡ true → begins y ≡ true → is_le (bytes_cmp x y) ≡ true → is_le (bytes_cmp (rest x) (rest y)) ≡ true
  rests_le x y e f le =
      ap is_le
      (sym (behind_front front (rest x) (rest y))
      ∙ ap (λ (key : List ℕ). bytes_cmp key (front ++ rest y)) (sym (parts x e))
      ∙ ap (λ (key : List ℕ). bytes_cmp x key) (sym (parts y f)))
      ∙ le

  -- what is at or below a key below the front is below the front
  below_front : (x y : List ℕ) → is_le (bytes_cmp x y) ≡ true → is_lt (bytes_cmp y front) ≡ true → bytes_cmp x front ≡ Less
  below_front x y le e = le_lt_trans nat_list_cmp_total x y front le (lt_of y front e)

  -- nothing that begins with the front is above a key that neither does nor is below it
  not_above : (x y : List ℕ) → begins x ≡ false → is_lt (bytes_cmp x front) ≡ false → begins y ≡ true → is_le (bytes_cmp x y) ≡ true → ⊥
  not_above x y other high e le = by (bytes_cmp front x) refl
    where
      as_front : bytes_cmp y x ≡ bytes_cmp front x
      as_front =
          ap (λ (key : List ℕ). bytes_cmp key x) (parts y e)
          ∙ other_front front (rest y) [] x other
          ∙ ap (λ (key : List ℕ). bytes_cmp key x) (append-nil front)

      by : (o : Ordering) → bytes_cmp front x ≡ o → ⊥
      by Less f = not_both x y le (as_front ∙ f)
      by Equal f = false≢true (sym other ∙ sym (ap begins (exact_bytes y x (as_front ∙ f))) ∙ e)
      by Greater f = false≢true (sym (ap is_le f) ∙ le_of_not x front high)

  rises_by : (x y : List ℕ) (a b c d : Bool) → begins x ≡ a → is_lt (bytes_cmp x front) ≡ b → begins y ≡ c → is_lt (bytes_cmp y front) ≡ d → AreBytes x → is_le (bytes_cmp x y) ≡ true → number_by a b x ≤ number_by c d y
  rises_by x y true b true d e f g h bytes le = prefix_le (rest x) (rest y) (bytes_behind (length front) x bytes) (rests_le x y e g le)
  rises_by x y true b false true e f g h bytes le =
      absurd (not_below front (rest x) (ap (λ (key : List ℕ). bytes_cmp key front) (sym (parts x e)) ∙ below_front x y le h))
  rises_by x y true b false false e f g h bytes le = prefix_bound (rest x) (bytes_behind (length front) x bytes)
  rises_by x y false true c d e f g h bytes le = omega arith
  rises_by x y false false true d e f g h bytes le = absurd (not_above x y e f g le)
  rises_by x y false false false true e f g h bytes le = absurd (false≢true (sym f ∙ ap is_lt (below_front x y le h)))
  rises_by x y false false false false e f g h bytes le = omega arith

  pub number_rises : (x y : List ℕ) → AreBytes x → is_le (bytes_cmp x y) ≡ true → number_of front x ≤ number_of front y
  number_rises x y bytes le =
      rises_by x y (begins x) (is_lt (bytes_cmp x front)) (begins y) (is_lt (bytes_cmp y front)) refl refl refl refl bytes le

  bound_by : (x : List ℕ) (a b : Bool) → AreBytes x → number_by a b x ≤ 2 ^ 64 - 1
  bound_by x true b bytes = prefix_bound (rest x) (bytes_behind (length front) x bytes)
  bound_by x false true bytes = omega arith
  bound_by x false false bytes = omega arith

  pub number_bound : (x : List ℕ) → AreBytes x → number_of front x ≤ 2 ^ 64 - 1
  number_bound x bytes = bound_by x (begins x) (is_lt (bytes_cmp x front)) bytes

  -- so what has the lower number isn't above
  pub lower_number : (x y : List ℕ) → AreBytes y → number_of front x < number_of front y → is_le (bytes_cmp x y) ≡ true
  lower_number x y bytes lower = by (bytes_cmp x y) refl
    where
      by : (o : Ordering) → bytes_cmp x y ≡ o → is_le o ≡ true
      by Less e = refl
      by Equal e = refl
      by Greater e =
          let turned : is_le (bytes_cmp y x) ≡ true = ap is_le (nat_list_cmp_total.antisymm y x ∙ ap ordering_reverse e) in
          absurd (omega (arith, lower, number_rises y x bytes turned))

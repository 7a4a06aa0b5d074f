-- Where points that are passed end.
use Rattle.std.proofs.Common.{◌≡◌, ℕ, zero, suc, ◌+◌, ◌<◌, ◌≤◌, max, Bool, true, false, cond, ltb, List, [], ◌∷◌, length, filter, get_or, drop, refl, sym, ap, ◌∙◌, subst, arith}
use Rattle.std.specs.List.{AllWithin, HoldsAt}
use Rattle.std.specs.List.Sorted.{IsStrictlySortedBy, IsPartitionPoint, IsPartitionedBy}
use Rattle.std.proofs.lemmas.Bool.{false≢true}
use Rattle.std.proofs.lemmas.Bool.Decides.{nat_tests}
use Rattle.std.proofs.lemmas.List.{get_or-drop}
use Rattle.std.proofs.lemmas.List.Sums.{count_by-le-length, length-filter}
use Rattle.uc_run_entry.specs.declared.entry.Entry.{Entry}
use Rattle.uc_run_entry.specs.Order.{entry_cmp}
use Rattle.uc_run_entry.specs.Seek.{is_passed, seek_place}
use Rattle.uc_run_entry.proofs.Partitions.{partitioned}
use Rattle.uc_run.proofs.Order.{passed_before}

module _ {X : Type 0} (test : X → Bool) where
  abbrev Passes : X → Type 0
  Passes x = test x ≡ true

  abbrev Fails : X → Type 0
  Fails x = test x ≡ false

  parted_rest : (x : X) (xs : List X) → IsPartitionedBy test (x ∷ xs) → IsPartitionedBy test xs
  parted_rest x xs parted i j d le l passes = parted (suc i) (suc j) d (omega (arith, le)) (omega (arith, l)) passes

  not_true : (b : Bool) → (b ≡ true → ⊥) → b ≡ false
  not_true true never = absurd (never refl)
  not_true false never = refl

  none_behind : (x : X) (xs : List X) → IsPartitionedBy test (x ∷ xs) → test x ≡ false → AllWithin Fails (x ∷ xs) 0 (length (x ∷ xs))
  none_behind x xs parted fails k d low l = not_true (test (get_or (x ∷ xs) k d)) (λ passes. false≢true (sym fails ∙ parted 0 k d (omega arith) l passes))

  none_counted : (xs : List X) → AllWithin Fails xs 0 (length xs) → length (filter test xs) ≡ 0
  none_counted [] h = refl
  none_counted (x ∷ xs) h =
      ap (λ b. length (cond b (x ∷ filter test xs) (filter test xs))) (h 0 x (omega arith) (omega arith))
      ∙ none_counted xs (λ k d low l. h (suc k) d (omega arith) (omega (arith, l)))

  -- where those that pass stand first, as many as there are is where they end
  pub count_point : (xs : List X) → IsPartitionedBy test xs → IsPartitionPoint Passes Fails xs (length (filter test xs))
  count_point [] parted = ((λ k d low l. absurd (omega (arith, l))), (λ k d low l. absurd (omega (arith, l))))
  count_point (x ∷ xs) parted = by (test x) refl (count_point xs (parted_rest x xs parted))
    where
      by : (b : Bool) → test x ≡ b → IsPartitionPoint Passes Fails xs (length (filter test xs)) → IsPartitionPoint Passes Fails (x ∷ xs) (length (cond b (x ∷ filter test xs) (filter test xs)))
      by true e rest = ((λ k d low l. passes k d l), (λ k d low l. fails k d low l))
        where
          passes : (k : ℕ) (d : X) → k < suc (length (filter test xs)) → test (get_or (x ∷ xs) k d) ≡ true
          passes zero d l = e
          passes (suc k) d l = rest.0 k d (omega arith) (omega (arith, l))

          fails : (k : ℕ) (d : X) → suc (length (filter test xs)) ≤ k → k < length (x ∷ xs) → test (get_or (x ∷ xs) k d) ≡ false
          fails zero d low l = absurd (omega (arith, low))
          fails (suc k) d low l = rest.1 k d (omega (arith, low)) (omega (arith, l))
      by false e rest =
          let none : length (filter test xs) ≡ 0 = none_counted xs (λ k d low l. none_behind x xs parted e (suc k) d (omega arith) (omega (arith, l))) in
          ((λ k d low l. absurd (omega (arith, l, none))), (λ k d low l. none_behind x xs parted e k d (omega arith) l))

  -- what a walk from a place passes, all that pass have
  pub walk_within : (xs : List X) (place n m : ℕ) → place + n ≤ length xs → IsPartitionPoint Passes Fails xs m → AllWithin Passes (drop place xs) 0 n → (d : X) → place + n ≤ max place m
  walk_within xs place zero m within point before d = omega arith
  walk_within xs place (suc j) m within point before d = by (ltb m (place + suc j)) refl
    where
      by : (b : Bool) → ltb m (place + suc j) ≡ b → place + suc j ≤ max place m
      by true e =
          let lt : m < place + suc j = grind (arith, nat_tests) in
          let passes : test (get_or xs (place + j) d) ≡ true = sym (ap test (get_or-drop place xs j d)) ∙ before j d (omega arith) (omega arith) in
          absurd (false≢true (sym (point.1 (place + j) d (omega (arith, lt)) (omega (arith, within))) ∙ passes))
      by false e = let ge : place + suc j ≤ m = grind (arith, nat_tests) in omega (arith, ge)

  -- where a walk from a place meets the first that fails, those that pass end, if they didn't end before the place
  pub walk_ends : (xs : List X) (place n m : ℕ) → place + n ≤ length xs → m ≤ length xs → IsPartitionPoint Passes Fails xs m → AllWithin Passes (drop place xs) 0 n → (place + n < length xs → HoldsAt Fails (drop place xs) n) → (d : X) → place + n ≡ max place m
  walk_ends xs place n m within bound point before there d = by (ltb (place + n) m) refl
    where
      le : place + n ≤ max place m
      le = walk_within xs place n m within point before d

      by : (b : Bool) → ltb (place + n) m ≡ b → place + n ≡ max place m
      by true e =
          let lt : place + n < m = grind (arith, nat_tests) in
          let fails : test (get_or xs (place + n) d) ≡ false = sym (ap test (get_or-drop place xs n d)) ∙ there (omega (arith, lt, bound)) d in
          absurd (false≢true (sym fails ∙ point.0 (place + n) d (omega arith) lt))
      by false e = let ge : m ≤ place + n = grind (arith, nat_tests) in omega (arith, ge, le)

module _ (points : List Entry) (low : List ℕ) (strict : Bool) where
  abbrev passed : Entry → Bool
  passed p = is_passed low strict p.key

  pub seek_bound : (n : ℕ) → n ≡ seek_place points low strict → n ≤ length points
  seek_bound n e = let le : seek_place points low strict ≤ length points = count_by-le-length passed points in omega (arith, e, le)

  -- the place that a seek finds
  pub seek_point : IsStrictlySortedBy entry_cmp points → (n : ℕ) → n ≡ seek_place points low strict → IsPartitionPoint (λ p. passed p ≡ true) (λ p. passed p ≡ false) points n
  seek_point sorted n e =
      subst (IsPartitionPoint (λ p. passed p ≡ true) (λ p. passed p ≡ false) points) (length-filter passed points ∙ sym e)
      (count_point passed points (partitioned passed entry_cmp (passed_before low strict) points sorted))

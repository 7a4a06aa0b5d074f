-- The greatest that a test passes, of one list and of several together.
use Rattle.std.proofs.Common.{◌≡◌, ℕ, zero, suc, ◌+◌, ◌<◌, ◌≤◌, max, Bool, true, false, cond, List, [], ◌∷◌, ◌++◌, map, fold, filter, take, take_all, length, get_or, refl, sym, ap, ◌∙◌, subst, arith}
use Rattle.std.specs.Prelude.{Option, Some, None}
use Rattle.std.specs.List.{AllByRecursion, flat_map, slice_get}
use Rattle.std.specs.List.Sorted.{IsStrictlySortedBy}
use Rattle.std.specs.declared.cmp.Ordering.{Ordering}
use Rattle.std.specs.declared.cmp.Ordering.TheVariants.{Less, Equal, Greater}
use Rattle.std.specs.Ordering.{nat_cmp, flip_args, match_ordering}
use Rattle.std.specs.BTreeSet.{insert_key}
use Rattle.std.proofs.lemmas.Bool.Decides.{nat_tests}
use Rattle.std.proofs.lemmas.List.{take_more}
use Rattle.std.proofs.lemmas.Cmp.{nat_cmp_total, back_total}
use Rattle.uc_run_entry.proofs.Sets.{sorted_set}
use Rattle.uc_run_entry.specs.Newest.{newer}
use Rattle.uc_run_entry.specs.Order.{IsFalling}
use Rattle.uc_compact.specs.Together.{together}
use Rattle.uc_compact.proofs.NestedLists.{all-map}
use Rattle.uc_compact.proofs.Onward.{less_number}

-- ---- the newer of two

max_assoc : (x y z : ℕ) → max (max x y) z ≡ max x (max y z)
max_assoc x y z = omega arith

max_swap : (x y : ℕ) → max x y ≡ max y x
max_swap x y = omega arith

max_itself : (x : ℕ) → max x x ≡ x
max_itself x = omega arith

pub newer_none : (a : Option ℕ) → newer a None ≡ a
newer_none None = refl
newer_none (Some x) = refl

pub newer_assoc : (a b c : Option ℕ) → newer (newer a b) c ≡ newer a (newer b c)
newer_assoc None b c = refl
newer_assoc (Some x) None c = refl
newer_assoc (Some x) (Some y) None = refl
newer_assoc (Some x) (Some y) (Some z) = ap (λ (n : ℕ). Some n) (max_assoc x y z)

newer_swap : (a b : Option ℕ) → newer a b ≡ newer b a
newer_swap None b = sym (newer_none b)
newer_swap (Some x) None = refl
newer_swap (Some x) (Some y) = ap (λ (n : ℕ). Some n) (max_swap x y)

newer_itself : (a : Option ℕ) → newer a a ≡ a
newer_itself None = refl
newer_itself (Some x) = ap (λ (n : ℕ). Some n) (max_itself x)

-- the first two the other way round
newer_past : (a b c : Option ℕ) → newer a (newer b c) ≡ newer b (newer a c)
newer_past a b c = sym (newer_assoc a b c) ∙ ap (λ (o : Option ℕ). newer o c) (newer_swap a b) ∙ newer_assoc b a c

-- no more than a number, where there is one
abbrev IsAtMost : ℕ → Option ℕ → Type 0
IsAtMost x None = Unit {0}
IsAtMost x (Some y) = y ≤ x

first_newer : (x : ℕ) (b : Option ℕ) → IsAtMost x b → newer (Some x) b ≡ Some x
first_newer x None h = refl
first_newer x (Some y) h =
    let e : max x y ≡ x = omega (arith, h) in
    ap (λ (n : ℕ). Some n) e

pub together_falls : (lists : List (List ℕ)) → IsFalling (together lists)
together_falls lists = sorted_set (flip_args nat_cmp) (back_total nat_cmp_total) (flat_map (λ (seqs : List ℕ). seqs) lists)

module _ (test : ℕ → Bool) where
  -- a number that passes
  abbrev pub one : ℕ → Option ℕ
  one x = cond (test x) (Some x) None

  -- the greatest that passes
  abbrev pub best : List ℕ → Option ℕ
  best [] = None
  best (x ∷ xs) = newer (one x) (best xs)

  -- ---- of a list that falls it is the first one that passes

  most_put : (n x : ℕ) (o : Option ℕ) (b : Bool) → x ≤ n → IsAtMost n o → IsAtMost n (newer (cond b (Some x) None) o)
  most_put n x None true le h = le
  most_put n x (Some y) true le h = omega (arith, le, h)
  most_put n x o false le h = h

  at_most : (n : ℕ) (xs : List ℕ) → AllByRecursion (λ x. x < n) xs → IsAtMost n (best xs)
  at_most n [] h = tt
  at_most n (x ∷ xs) h = most_put n x (best xs) (test x) (let l : x < n = h.0 in omega (arith, l)) (at_most n xs h.1)

  first_put : (x : ℕ) (xs : List ℕ) (b : Bool) → AllByRecursion (λ y. y < x) xs → best xs ≡ slice_get (filter test xs) 0 → newer (cond b (Some x) None) (best xs) ≡ slice_get (cond b (x ∷ filter test xs) (filter test xs)) 0
  first_put x xs true h rest = first_newer x (best xs) (at_most x xs h)
  first_put x xs false h rest = rest

  less_than_first : (x : ℕ) (xs : List ℕ) → AllByRecursion (λ y. flip_args nat_cmp x y ≡ Less) xs → AllByRecursion (λ y. y < x) xs
  less_than_first x xs h = all-map (λ y. nat_cmp y x ≡ Less) (λ y. y < x) (λ y e. less_number y x e) xs h

  pub best_first : (xs : List ℕ) → IsFalling xs → best xs ≡ slice_get (filter test xs) 0
  unfolding IsStrictlySortedBy
  best_first [] h = refl
  best_first (x ∷ xs) h = first_put x xs (test x) (less_than_first x xs h.0) (best_first xs h.1)

  -- ---- of numbers that are inserted

  same_number : (k x : ℕ) → flip_args nat_cmp k x ≡ Equal → k ≡ x
  same_number k x e = grind (arith, nat_tests)

  best_placed : (k x : ℕ) (xs others : List ℕ) (o : Ordering) → flip_args nat_cmp k x ≡ o → best others ≡ newer (one k) (best xs) → best (match_ordering o (k ∷ x ∷ xs) (x ∷ xs) (x ∷ others)) ≡ newer (one k) (newer (one x) (best xs))
  best_placed k x xs others Less e rest = refl
  best_placed k x xs others Equal e rest =
      ap (λ (o : Option ℕ). newer o (best xs)) (sym (newer_itself (one x)))
      ∙ newer_assoc (one x) (one x) (best xs)
      ∙ ap (λ n. newer (one n) (newer (one x) (best xs))) (sym (same_number k x e))
  best_placed k x xs others Greater e rest = ap (newer (one x)) rest ∙ newer_past (one x) (one k) (best xs)

  best_inserted : (k : ℕ) (xs : List ℕ) → best (insert_key (flip_args nat_cmp) xs k) ≡ newer (one k) (best xs)
  best_inserted k [] = refl
  best_inserted k (x ∷ xs) = best_placed k x xs (insert_key (flip_args nat_cmp) xs k) (flip_args nat_cmp k x) refl (best_inserted k xs)

  best_fold : (ks acc : List ℕ) → best (fold (insert_key (flip_args nat_cmp)) acc ks) ≡ newer (best ks) (best acc)
  best_fold [] acc = refl
  best_fold (k ∷ ks) acc =
      best_fold ks (insert_key (flip_args nat_cmp) acc k)
      ∙ ap (newer (best ks)) (best_inserted k acc)
      ∙ newer_past (best ks) (one k) (best acc)
      ∙ sym (newer_assoc (one k) (best ks) (best acc))

  best-append : (xs ys : List ℕ) → best (xs ++ ys) ≡ newer (best xs) (best ys)
  best-append [] ys = refl
  best-append (x ∷ xs) ys = ap (newer (one x)) (best-append xs ys) ∙ sym (newer_assoc (one x) (best xs) (best ys))

  -- ---- of several lists, each of which falls

  -- the newest that passes of each, and of these the newest
  abbrev pub best_of_all : List (List ℕ) → Option ℕ
  best_of_all [] = None
  best_of_all (seqs ∷ lists) = newer (slice_get (filter test seqs) 0) (best_of_all lists)

  best_joined : (lists : List (List ℕ)) → AllByRecursion IsFalling lists → best (flat_map (λ (seqs : List ℕ). seqs) lists) ≡ best_of_all lists
  best_joined [] h = refl
  best_joined (seqs ∷ lists) h =
      best-append seqs (flat_map (λ (seqs : List ℕ). seqs) lists)
      ∙ ap (λ (o : Option ℕ). newer o (best (flat_map (λ (seqs : List ℕ). seqs) lists))) (best_first seqs h.0)
      ∙ ap (newer (slice_get (filter test seqs) 0)) (best_joined lists h.1)

  pub best_together : (lists : List (List ℕ)) → AllByRecursion IsFalling lists → slice_get (filter test (together lists)) 0 ≡ best_of_all lists
  best_together lists h =
      let all : List ℕ = flat_map (λ (seqs : List ℕ). seqs) lists in
      sym (best_first (together lists) (together_falls lists))
      ∙ best_fold all []
      ∙ newer_none (best all)
      ∙ best_joined lists h

-- ---- lists one after the other

module _ {X : Type 0} (value : X → List ℕ) (test : ℕ → Bool) where
  best_behind : (xs : List X) (x : X) → best_of_all test (map value (xs ++ x ∷ [])) ≡ newer (best_of_all test (map value xs)) (slice_get (filter test (value x)) 0)
  best_behind [] x = newer_none (slice_get (filter test (value x)) 0)
  best_behind (y ∷ xs) x =
      ap (newer (slice_get (filter test (value y)) 0)) (best_behind xs x)
      ∙ sym (newer_assoc (slice_get (filter test (value y)) 0) (best_of_all test (map value xs)) (slice_get (filter test (value x)) 0))

  -- with one list more
  pub best_more : (xs : List X) (i : ℕ) (x : X) → i < length xs → x ≡ get_or xs i x → newer (best_of_all test (map value (take i xs))) (slice_get (filter test (value x)) 0) ≡ best_of_all test (map value (take (i + 1) xs))
  best_more xs i x l is =
      sym (best_behind (take i xs) x)
      ∙ ap (λ (ys : List X). best_of_all test (map value ys)) (ap (λ (y : X). take i xs ++ y ∷ []) is ∙ sym (take_more xs i x l))

  -- all of them
  pub best_all : (xs : List X) (i : ℕ) → length xs ≤ i → AllByRecursion IsFalling (map value xs) → best_of_all test (map value (take i xs)) ≡ slice_get (filter test (together (map value xs))) 0
  best_all xs i le falls = ap (λ (ys : List X). best_of_all test (map value ys)) (take_all i xs le) ∙ sym (best_together test (map value xs) falls)

  pub all_seen : (P : List ℕ → Type 0) (xs : List X) (i : ℕ) (x : X) → i < length xs → x ≡ get_or xs i x → AllByRecursion P (map value xs) → P (value x)
  all_seen P [] i x l is h = absurd (omega (arith, l))
  all_seen P (y ∷ xs) zero x l is h = subst (λ (z : X). P (value z)) (sym is) h.0
  all_seen P (y ∷ xs) (suc i) x l is h = all_seen P xs i x (omega (arith, l)) is h.1

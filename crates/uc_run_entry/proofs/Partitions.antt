-- The elements of a list that pass a test, if they are those between two places.
use Rattle.std.proofs.Common.{◌≡◌, ℕ, zero, suc, ◌+◌, ◌-◌, ◌<◌, ◌≤◌, Bool, true, false, cond, ltb, List, [], ◌∷◌, length, get_or, take, drop, filter, refl, sym, ap, ◌∙◌, arith}
use Rattle.std.specs.List.{count_by, AllWithin}
use Rattle.std.specs.List.Sorted.{IsStrictlySortedBy, IsPartitionPoint, IsPartitionedBy}
use Rattle.std.specs.declared.cmp.Ordering.{Ordering}
use Rattle.std.specs.declared.cmp.Ordering.TheVariants.{Less}
use Rattle.std.proofs.lemmas.Bool.{false≢true}
use Rattle.std.proofs.lemmas.Bool.Decides.{nat_tests}
use Rattle.std.proofs.lemmas.List.{get_or-drop, get_or-take, length-take-le, length-drop}
use Rattle.std.proofs.lemmas.List.Sums.{length-filter}
use Rattle.std.proofs.lemmas.List.Elements.{All-from_recursion}

-- none before `a`, each of the next `n`, and none after these
pub record IsCut {X : Type 0} (test : X → Bool) (xs : List X) (a n : ℕ) : Type 0 where
  pub within : a + n ≤ length xs
  pub before : (k : ℕ) (d : X) → k < a → test (get_or xs k d) ≡ false
  pub here : (k : ℕ) (d : X) → a ≤ k → k < a + n → test (get_or xs k d) ≡ true
  pub behind : (k : ℕ) (d : X) → a + n ≤ k → k < length xs → test (get_or xs k d) ≡ false

module _ {X : Type 0} (test : X → Bool) where
  pub filter-cut : (xs : List X) (a n : ℕ) → IsCut test xs a n → filter test xs ≡ take n (drop a xs)
  filter-cut [] zero zero c = refl
  filter-cut [] zero (suc n) c = absurd (omega (arith, c.within))
  filter-cut [] (suc a) n c = absurd (omega (arith, c.within))
  filter-cut (x ∷ xs) (suc a) n c =
      let rest : IsCut test xs a n = record {
        within = omega (arith, c.within);
        before = λ k d l. c.before (suc k) d (omega (arith, l));
        here = λ k d l m. c.here (suc k) d (omega (arith, l)) (omega (arith, m));
        behind = λ k d l m. c.behind (suc k) d (omega (arith, l)) (omega (arith, m));
      } in
      ap (λ b. cond b (x ∷ filter test xs) (filter test xs)) (c.before 0 x (omega arith)) ∙ filter-cut xs a n rest
  filter-cut (x ∷ xs) zero (suc n) c =
      let rest : IsCut test xs 0 n = record {
        within = omega (arith, c.within);
        before = λ k d l. absurd (omega (arith, l));
        here = λ k d l m. c.here (suc k) d (omega arith) (omega (arith, m));
        behind = λ k d l m. c.behind (suc k) d (omega (arith, l)) (omega (arith, m));
      } in
      ap (λ b. cond b (x ∷ filter test xs) (filter test xs)) (c.here 0 x (omega arith) (omega arith)) ∙ ap (λ (ys : List X). x ∷ ys) (filter-cut xs 0 n rest)
  filter-cut (x ∷ xs) zero zero c =
      let rest : IsCut test xs 0 0 = record {
        within = omega arith;
        before = λ k d l. absurd (omega (arith, l));
        here = λ k d l m. absurd (omega (arith, m));
        behind = λ k d l m. c.behind (suc k) d (omega arith) (omega (arith, m));
      } in
      ap (λ b. cond b (x ∷ filter test xs) (filter test xs)) (c.behind 0 x (omega arith) (omega arith)) ∙ filter-cut xs 0 0 rest

  -- the first ones
  pub filter-front : (xs : List X) (i : ℕ) → i ≤ length xs → IsPartitionPoint (λ x. test x ≡ true) (λ x. test x ≡ false) xs i → filter test xs ≡ take i xs
  filter-front xs i le point = filter-cut xs 0 i (record {
    within = omega (arith, le);
    before = λ k d l. absurd (omega (arith, l));
    here = λ k d l m. point.0 k d (omega arith) (omega (arith, m));
    behind = λ k d l m. point.1 k d (omega (arith, l)) m;
  })

  pub count-front : (xs : List X) (i : ℕ) → i ≤ length xs → IsPartitionPoint (λ x. test x ≡ true) (λ x. test x ≡ false) xs i → i ≡ count_by test xs
  count-front xs i le point = sym (length-take-le i xs le) ∙ ap length (sym (filter-front xs i le point)) ∙ length-filter test xs

  -- a test that passes what stands before an element that it passes
  pub partitioned : (cmp : X → X → Ordering) → ((x y : X) → cmp x y ≡ Less → test y ≡ true → test x ≡ true) → (xs : List X) → IsStrictlySortedBy cmp xs → IsPartitionedBy test xs
  unfolding IsStrictlySortedBy
  partitioned cmp down [] sorted i j d le l e = absurd (omega (arith, l))
  partitioned cmp down (x ∷ xs) sorted zero zero d le l e = e
  partitioned cmp down (x ∷ xs) sorted zero (suc j) d le l e = down x (get_or xs j d) (All-from_recursion (λ y. cmp x y ≡ Less) xs sorted.0 j d (omega (arith, l))) e
  partitioned cmp down (x ∷ xs) sorted (suc i) zero d le l e = absurd (omega (arith, le))
  partitioned cmp down (x ∷ xs) sorted (suc i) (suc j) d le l e = partitioned cmp down xs sorted.1 i j d (omega (arith, le)) (omega (arith, l)) e

-- a test that passes all that another passes has its place at or after that of the other
module _ {X : Type 0} (p q : X → Bool) (weaker : (x : X) → p x ≡ true → q x ≡ true) (d : X) where
  places_by : (xs : List X) (a b : ℕ) (c : Bool) → ltb b a ≡ c → a ≤ length xs → IsPartitionPoint (λ x. p x ≡ true) (λ x. p x ≡ false) xs a → IsPartitionPoint (λ x. q x ≡ true) (λ x. q x ≡ false) xs b → a ≤ b
  places_by xs a b true e le first second =
      let lt : b < a = grind (arith, nat_tests) in
      absurd (false≢true (sym (second.1 b d (omega arith) (omega (arith, lt, le))) ∙ weaker (get_or xs b d) (first.0 b d (omega arith) lt)))
  places_by xs a b false e le first second = grind (arith, nat_tests)

  pub places_in_order : (xs : List X) (a b : ℕ) → a ≤ length xs → IsPartitionPoint (λ x. p x ≡ true) (λ x. p x ≡ false) xs a → IsPartitionPoint (λ x. q x ≡ true) (λ x. q x ≡ false) xs b → a ≤ b
  places_in_order xs a b le first second = places_by xs a b (ltb b a) refl le first second

-- what a part of a list has at a place
pub part_at : {X : Type 0} (xs : List X) (a n k : ℕ) (d : X) → k < n → get_or (take n (drop a xs)) k d ≡ get_or xs (a + k) d
part_at xs a n k d l = get_or-take n (drop a xs) k d l ∙ get_or-drop a xs k d

-- a search continues between two places, where all before the first pass the test, and none from the second on does
module _ {X : Type 0} (test : X → Bool) (xs : List X) (begin end : ℕ) (order : begin ≤ end) (within : end ≤ length xs) where
  pub length_part : length (take (end - begin) (drop begin xs)) ≡ end - begin
  length_part = length-take-le (end - begin) (drop begin xs) (let l : length (drop begin xs) ≡ length xs - begin = length-drop begin xs in omega (arith, l, within))

  pub part_parted : IsPartitionedBy test xs → IsPartitionedBy test (take (end - begin) (drop begin xs))
  part_parted parted i j d le l passes =
      let short : j < end - begin = omega (arith, l, length_part) in
      ap test (part_at xs begin (end - begin) i d (omega (arith, le, short)))
      ∙ parted (begin + i) (begin + j) d (omega (arith, le)) (omega (arith, short, within)) (sym (ap test (part_at xs begin (end - begin) j d short)) ∙ passes)

  pub part_point : AllWithin (λ x. test x ≡ true) xs 0 begin → AllWithin (λ x. test x ≡ false) xs end (length xs) → (r : ℕ) → r ≤ length (take (end - begin) (drop begin xs)) → IsPartitionPoint (λ x. test x ≡ true) (λ x. test x ≡ false) (take (end - begin) (drop begin xs)) r → IsPartitionPoint (λ x. test x ≡ true) (λ x. test x ≡ false) xs (begin + r)
  part_point before behind r le point = (
    (λ k d l m. passes k d (ltb k begin) refl m),
    (λ k d l m. fails k d (ltb k end) refl l m),
  )
    where
      at_part : (k : ℕ) (d : X) → begin ≤ k → k < end → test (get_or (take (end - begin) (drop begin xs)) (k - begin) d) ≡ test (get_or xs k d)
      at_part k d l m =
          let sum : begin + (k - begin) ≡ k = omega (arith, l) in
          ap test (part_at xs begin (end - begin) (k - begin) d (omega (arith, l, m))) ∙ ap (λ j. test (get_or xs j d)) sum

      passes : (k : ℕ) (d : X) (b : Bool) → ltb k begin ≡ b → k < begin + r → test (get_or xs k d) ≡ true
      passes k d true e m = before k d (omega arith) (grind (arith, nat_tests))
      passes k d false e m =
          let ge : begin ≤ k = grind (arith, nat_tests) in
          sym (at_part k d ge (omega (arith, m, le, length_part))) ∙ point.0 (k - begin) d (omega arith) (omega (arith, ge, m))

      fails : (k : ℕ) (d : X) (b : Bool) → ltb k end ≡ b → begin + r ≤ k → k < length xs → test (get_or xs k d) ≡ false
      fails k d true e l m =
          let lt : k < end = grind (arith, nat_tests) in
          sym (at_part k d (omega (arith, l)) lt) ∙ point.1 (k - begin) d (omega (arith, l)) (omega (arith, l, lt, length_part))
      fails k d false e l m = behind k d (grind (arith, nat_tests)) m

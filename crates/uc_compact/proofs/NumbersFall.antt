-- Of a list whose numbers fall, those above a number come first.
use Rattle.std.proofs.Common.{◌≡◌, ℕ, zero, suc, ◌<◌, ◌≤◌, Bool, true, false, cond, leb, ltb, List, [], ◌∷◌, length, get_or, take, drop, filter, refl, sym, ap, ◌∙◌, arith}
use Rattle.std.specs.Prelude.{◌&&◌}
use Rattle.std.specs.List.{AllByRecursion}
use Rattle.std.specs.List.Sorted.{IsStrictlySortedBy, IsPartitionPoint, IsPartitionedBy}
use Rattle.std.specs.declared.cmp.Ordering.TheVariants.{Less}
use Rattle.std.specs.Ordering.{nat_cmp}
use Rattle.std.proofs.lemmas.Bool.Decides.{nat_tests}
use Rattle.std.proofs.lemmas.List.Elements.{All-from_recursion}
use Rattle.std.proofs.lemmas.List.Kept.{IsStrictlySortedBy-filter}
use Rattle.uc_run_entry.specs.declared.entry.Entry.{Entry}
use Rattle.uc_run_entry.specs.Order.{IsFalling}
use Rattle.uc_compact.specs.Choice.{PointsFall}
use Rattle.uc_compact.proofs.NestedLists.{all-map}

module _ {Y : Type 0} (n : Y → ℕ) where
  -- each number is above those after it
  abbrev pub FallsAs : List Y → Type 0
  FallsAs [] = Unit {0}
  FallsAs (y ∷ ys) = AllByRecursion (λ z. n z < n y) ys × FallsAs ys

  above_first : (k a b : ℕ) → b < a → ltb k b ≡ true → ltb k a ≡ true
  above_first k a b lt e = grind (arith, nat_tests)

  pub parted : (k : ℕ) (ys : List Y) → FallsAs ys → IsPartitionedBy (λ y. ltb k (n y)) ys
  parted k [] h i j d le l e = absurd (omega (arith, l))
  parted k (y ∷ ys) h zero zero d le l e = e
  parted k (y ∷ ys) h zero (suc j) d le l e = above_first k (n y) (n (get_or ys j d)) (All-from_recursion (λ z. n z < n y) ys h.0 j d (omega (arith, l))) e
  parted k (y ∷ ys) h (suc i) zero d le l e = absurd (omega (arith, le))
  parted k (y ∷ ys) h (suc i) (suc j) d le l e = parted k ys h.1 i j d (omega (arith, le)) (omega (arith, l)) e

  IsPlace : ℕ → List Y → ℕ → Type 0
  IsPlace k ys i = IsPartitionPoint (λ y. ltb k (n y) ≡ true) (λ y. ltb k (n y) ≡ false) ys i

  behind : (k : ℕ) (y : Y) (ys : List Y) (i : ℕ) → IsPartitionPoint (λ y. ltb k (n y) ≡ true) (λ y. ltb k (n y) ≡ false) (y ∷ ys) (suc i) → IsPartitionPoint (λ y. ltb k (n y) ≡ true) (λ y. ltb k (n y) ≡ false) ys i
  behind k y ys i point = (
    (λ j d l m. point.0 (suc j) d (omega arith) (omega (arith, m))),
    (λ j d l m. point.1 (suc j) d (omega (arith, l)) (omega (arith, m))),
  )

  all_behind : (k : ℕ) (y : Y) (ys : List Y) → IsPartitionPoint (λ y. ltb k (n y) ≡ true) (λ y. ltb k (n y) ≡ false) (y ∷ ys) 0 → IsPartitionPoint (λ y. ltb k (n y) ≡ true) (λ y. ltb k (n y) ≡ false) ys 0
  all_behind k y ys point = (
    (λ j d l m. absurd (omega (arith, m))),
    (λ j d l m. point.1 (suc j) d (omega arith) (omega (arith, m))),
  )

  not_above : (k a : ℕ) → ltb k a ≡ false → leb a k ≡ true
  not_above k a e = grind (arith, nat_tests)

  not_below : (k a : ℕ) → ltb k a ≡ true → leb a k ≡ false
  not_below k a e = grind (arith, nat_tests)

  -- the ones above a number
  pub newer_is : (k : ℕ) (ys : List Y) (i : ℕ) → i ≤ length ys → IsPartitionPoint (λ y. ltb k (n y) ≡ true) (λ y. ltb k (n y) ≡ false) ys i → take i ys ≡ filter (λ y. ltb k (n y)) ys
  newer_is k [] zero le point = refl
  newer_is k [] (suc i) le point = absurd (omega (arith, le))
  newer_is k (y ∷ ys) zero le point =
      newer_is k ys 0 (omega arith) (all_behind k y ys point)
      ∙ ap (λ b. cond b (y ∷ filter (λ z. ltb k (n z)) ys) (filter (λ z. ltb k (n z)) ys)) (sym (point.1 0 y (omega arith) (omega arith)))
  newer_is k (y ∷ ys) (suc i) le point =
      ap (λ (zs : List Y). y ∷ zs) (newer_is k ys i (omega (arith, le)) (behind k y ys i point))
      ∙ ap (λ b. cond b (y ∷ filter (λ z. ltb k (n z)) ys) (filter (λ z. ltb k (n z)) ys)) (sym (point.0 0 y (omega arith) (omega arith)))

  -- the others
  pub older_is : (k : ℕ) (ys : List Y) (i : ℕ) → i ≤ length ys → IsPartitionPoint (λ y. ltb k (n y) ≡ true) (λ y. ltb k (n y) ≡ false) ys i → drop i ys ≡ filter (λ y. leb (n y) k) ys
  older_is k [] zero le point = refl
  older_is k [] (suc i) le point = absurd (omega (arith, le))
  older_is k (y ∷ ys) zero le point =
      ap (λ (zs : List Y). y ∷ zs) (older_is k ys 0 (omega arith) (all_behind k y ys point))
      ∙ ap (λ b. cond b (y ∷ filter (λ z. leb (n z) k) ys) (filter (λ z. leb (n z) k) ys)) (sym (not_above k (n y) (point.1 0 y (omega arith) (omega arith))))
  older_is k (y ∷ ys) (suc i) le point =
      older_is k ys i (omega (arith, le)) (behind k y ys i point)
      ∙ ap (λ b. cond b (y ∷ filter (λ z. leb (n z) k) ys) (filter (λ z. leb (n z) k) ys)) (sym (not_below k (n y) (point.0 0 y (omega arith) (omega arith))))

less_number : (a b : ℕ) → nat_cmp a b ≡ Less → a < b
less_number a b e = grind (arith, nat_tests)

pub points_as : (ps : List Entry) → PointsFall ps → FallsAs (λ (p : Entry). p.seq) ps
unfolding IsStrictlySortedBy
points_as [] h = tt
points_as (p ∷ ps) h = (all-map (λ q. nat_cmp q.seq p.seq ≡ Less) (λ q. q.seq < p.seq) (λ q e. less_number q.seq p.seq e) ps h.0, points_as ps h.1)

pub newer_points : (k : ℕ) (ps : List Entry) (i : ℕ) → i ≤ length ps → IsPartitionPoint (λ p. ltb k p.seq ≡ true) (λ p. ltb k p.seq ≡ false) ps i → take i ps ≡ filter (λ p. ltb k p.seq) ps
newer_points k ps i le point = newer_is (λ (p : Entry). p.seq) k ps i le point

pub older_points : (k : ℕ) (ps : List Entry) (i : ℕ) → i ≤ length ps → IsPartitionPoint (λ p. ltb k p.seq ≡ true) (λ p. ltb k p.seq ≡ false) ps i → drop i ps ≡ filter (λ p. leb p.seq k) ps
older_points k ps i le point = older_is (λ (p : Entry). p.seq) k ps i le point

pub seqs_as : (ns : List ℕ) → IsFalling ns → FallsAs (λ k. k) ns
unfolding IsStrictlySortedBy
seqs_as [] h = tt
seqs_as (n ∷ ns) h = (all-map (λ k. nat_cmp k n ≡ Less) (λ k. k < n) (λ k e. less_number k n e) ns h.0, seqs_as ns h.1)

-- ---- one test after another

pub filter_both : {X : Type 0} (first second : X → Bool) (xs : List X) → filter second (filter first xs) ≡ filter (λ x. first x && second x) xs
filter_both first second [] = refl
filter_both {X} first second (x ∷ xs) = put (first x) (second x) (filter_both first second xs) refl
  where
    put : (a b : Bool) → filter second (filter first xs) ≡ filter (λ x. first x && second x) xs → second x ≡ b → filter second (cond a (x ∷ filter first xs) (filter first xs)) ≡ cond (a && b) (x ∷ filter (λ x. first x && second x) xs) (filter (λ x. first x && second x) xs)
    put true true e s = ap (λ c. cond c (x ∷ filter second (filter first xs)) (filter second (filter first xs))) s ∙ ap (λ (ys : List X). x ∷ ys) e
    put true false e s = ap (λ c. cond c (x ∷ filter second (filter first xs)) (filter second (filter first xs))) s ∙ e
    put false true e s = e
    put false false e s = e

pub points_filter : (test : Entry → Bool) (ps : List Entry) → PointsFall ps → PointsFall (filter test ps)
points_filter test ps h = IsStrictlySortedBy-filter _ test ps h

pub falling_filter : (test : ℕ → Bool) (ns : List ℕ) → IsFalling ns → IsFalling (filter test ns)
falling_filter test ns h = IsStrictlySortedBy-filter _ test ns h

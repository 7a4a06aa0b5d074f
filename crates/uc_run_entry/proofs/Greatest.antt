-- The newest sequence at or below a number, of parts of a list.
use Rattle.std.proofs.Common.{◌≡◌, ℕ, zero, suc, ◌+◌, ◌<◌, ◌≤◌, Bool, true, false, cond, ltb, leb, max, List, [], ◌∷◌, length, get_or, map, filter, Option, Some, None, refl, sym, ap, ◌∙◌, arith}
use Rattle.std.specs.Prelude.{not}
use Rattle.std.specs.List.{AllByRecursion, slice_get}
use Rattle.std.specs.List.Sorted.{IsPartitionedBy}
use Rattle.std.proofs.lemmas.Bool.Decides.{nat_tests}
use Rattle.uc_run_entry.specs.declared.span.Span.{Span}
use Rattle.uc_run_entry.specs.Newest.{Descends, newest_at_or_below, newer}

-- ---- places in a list that descends

head_above : (x : ℕ) (xs : List ℕ) → AllByRecursion (λ y. y ≤ x) xs → (j d : ℕ) → j < length xs → get_or xs j d ≤ x
head_above x [] h j d l = absurd (omega (arith, l))
head_above x (y ∷ ys) h zero d l = h.0
head_above x (y ∷ ys) h (suc j) d l = head_above x ys h.1 j d (omega (arith, l))

pub descends_at : (xs : List ℕ) → Descends xs → (i j d : ℕ) → i ≤ j → j < length xs → get_or xs j d ≤ get_or xs i d
descends_at [] h i j d le l = absurd (omega (arith, l))
descends_at (x ∷ xs) h zero zero d le l = omega arith
descends_at (x ∷ xs) h zero (suc j) d le l = head_above x xs h.0 j d (omega (arith, l))
descends_at (x ∷ xs) h (suc i) zero d le l = absurd (omega (arith, le))
descends_at (x ∷ xs) h (suc i) (suc j) d le l = descends_at xs h.1 i j d (omega (arith, le)) (omega (arith, l))

above_back : (at x y : ℕ) → y ≤ x → ltb at y ≡ true → ltb at x ≡ true
above_back at x y le e =
    let lt : at < y = grind (arith, nat_tests) in
    let more : at < x = omega (arith, lt, le) in
    grind (arith, nat_tests)

pub partitioned : (at : ℕ) (xs : List ℕ) → Descends xs → IsPartitionedBy (λ seq. ltb at seq) xs
partitioned at xs h i j d le l e = above_back at (get_or xs i d) (get_or xs j d) (descends_at xs h i j d le l) e

pub not_above : (at x : ℕ) → ltb at x ≡ false → leb x at ≡ true
not_above at x e = grind (arith, nat_tests)

pub not_below : (at x : ℕ) → ltb at x ≡ true → leb x at ≡ false
not_below at x e = grind (arith, nat_tests)

-- ---- the newer of two

pub newer_none : (a : Option ℕ) → newer a None ≡ a
newer_none None = refl
newer_none (Some x) = refl

max_assoc : (x y z : ℕ) → max (max x y) z ≡ max x (max y z)
max_assoc x y z = omega arith

max_swap : (x y : ℕ) → max x y ≡ max y x
max_swap x y = omega arith

pub newer_assoc : (a b c : Option ℕ) → newer (newer a b) c ≡ newer a (newer b c)
newer_assoc None b c = refl
newer_assoc (Some x) None c = refl
newer_assoc (Some x) (Some y) None = refl
newer_assoc (Some x) (Some y) (Some z) = ap (λ (n : ℕ). Some n) (max_assoc x y z)

newer_swap : (a b : Option ℕ) → newer a b ≡ newer b a
newer_swap None b = sym (newer_none b)
newer_swap (Some x) None = refl
newer_swap (Some x) (Some y) = ap (λ (n : ℕ). Some n) (max_swap x y)

-- no more than a number, where there is one
abbrev IsAtMost : ℕ → Option ℕ → Type 0
IsAtMost x None = Unit {0}
IsAtMost x (Some y) = y ≤ x

first_newer : (x : ℕ) (b : Option ℕ) → IsAtMost x b → newer (Some x) b ≡ Some x
first_newer x None h = refl
first_newer x (Some y) h =
    let e : max x y ≡ x = omega (arith, h) in
    ap (λ (n : ℕ). Some n) e

-- ---- a list of spans in two parts

abbrev pub seq_of : Span → ℕ
seq_of s = s.seq

-- none is newer than one before it
abbrev pub SpansDescend : List Span → Type 0
SpansDescend [] = Unit {0}
SpansDescend (s ∷ ss) = AllByRecursion (λ t. t.seq ≤ s.seq) ss × SpansDescend ss

pub descend_seqs : (n : ℕ) (ss : List Span) → AllByRecursion (λ t. t.seq ≤ n) ss → AllByRecursion (λ m. m ≤ n) (map seq_of ss)
descend_seqs n [] h = tt
descend_seqs n (s ∷ ss) h = (h.0, descend_seqs n ss h.1)

pub seqs_descend : (ss : List Span) → SpansDescend ss → Descends (map seq_of ss)
seqs_descend [] h = tt
seqs_descend (s ∷ ss) h = (descend_seqs s.seq ss h.0, seqs_descend ss h.1)

all_put : {X : Type 0} (P : X → Type 0) (x : X) (xs : List X) (b : Bool) → P x → AllByRecursion P xs → AllByRecursion P (cond b (x ∷ xs) xs)
all_put P x xs true p h = (p, h)
all_put P x xs false p h = h

pub all-filter : {X : Type 0} (P : X → Type 0) (p : X → Bool) (xs : List X) → AllByRecursion P xs → AllByRecursion P (filter p xs)
all-filter P p [] h = tt
all-filter P p (x ∷ xs) h = all_put P x (filter p xs) (p x) h.0 (all-filter P p xs h.1)

descend_put : (s : Span) (ss : List Span) (b : Bool) → AllByRecursion (λ t. t.seq ≤ s.seq) ss → SpansDescend ss → SpansDescend (cond b (s ∷ ss) ss)
descend_put s ss true h k = (h, k)
descend_put s ss false h k = k

pub descend-filter : (p : Span → Bool) (ss : List Span) → SpansDescend ss → SpansDescend (filter p ss)
descend-filter p [] h = tt
descend-filter p (s ∷ ss) h = descend_put s (filter p ss) (p s) (all-filter (λ t. t.seq ≤ s.seq) p ss h.0) (descend-filter p ss h.1)

module _ (at : ℕ) where
  most_put : (n m : ℕ) (rest : List ℕ) (b : Bool) → m ≤ n → IsAtMost n (slice_get rest 0) → IsAtMost n (slice_get (cond b (m ∷ rest) rest) 0)
  most_put n m rest true le h = le
  most_put n m rest false le h = h

  at_most : (n : ℕ) (ss : List Span) → AllByRecursion (λ t. t.seq ≤ n) ss → IsAtMost n (newest_at_or_below at (map seq_of ss))
  at_most n [] h = tt
  at_most n (s ∷ ss) h = most_put n s.seq (filter (λ seq. leb seq at) (map seq_of ss)) (leb s.seq at) h.0 (at_most n ss h.1)

  -- the newest of all is the newer of those of what a test passes and of what it doesn't
  part_head : (q : Span → Bool) (s : Span) (ss : List Span) (b c : Bool) → SpansDescend (s ∷ ss) →
      newest_at_or_below at (map seq_of ss) ≡ newer (newest_at_or_below at (map seq_of (filter q ss))) (newest_at_or_below at (map seq_of (filter (λ t. not (q t)) ss))) →
      leb s.seq at ≡ c →
      slice_get (cond c (s.seq ∷ filter (λ seq. leb seq at) (map seq_of ss)) (filter (λ seq. leb seq at) (map seq_of ss))) 0 ≡
      newer (newest_at_or_below at (map seq_of (cond b (s ∷ filter q ss) (filter q ss)))) (newest_at_or_below at (map seq_of (cond (not b) (s ∷ filter (λ t. not (q t)) ss) (filter (λ t. not (q t)) ss))))
  part_head q s ss true true h rest e =
      let front : newest_at_or_below at (map seq_of (s ∷ filter q ss)) ≡ Some s.seq = ap (λ c. slice_get (cond c (s.seq ∷ filter (λ seq. leb seq at) (map seq_of (filter q ss))) (filter (λ seq. leb seq at) (map seq_of (filter q ss)))) 0) e in
      let back : IsAtMost s.seq (newest_at_or_below at (map seq_of (filter (λ t. not (q t)) ss))) = at_most s.seq (filter (λ t. not (q t)) ss) (all-filter (λ t. t.seq ≤ s.seq) (λ t. not (q t)) ss h.0) in
      sym (ap (λ (a : Option ℕ). newer a (newest_at_or_below at (map seq_of (filter (λ t. not (q t)) ss)))) front ∙ first_newer s.seq (newest_at_or_below at (map seq_of (filter (λ t. not (q t)) ss))) back)
  part_head q s ss false true h rest e =
      let front : newest_at_or_below at (map seq_of (s ∷ filter (λ t. not (q t)) ss)) ≡ Some s.seq = ap (λ c. slice_get (cond c (s.seq ∷ filter (λ seq. leb seq at) (map seq_of (filter (λ t. not (q t)) ss))) (filter (λ seq. leb seq at) (map seq_of (filter (λ t. not (q t)) ss)))) 0) e in
      let back : IsAtMost s.seq (newest_at_or_below at (map seq_of (filter q ss))) = at_most s.seq (filter q ss) (all-filter (λ t. t.seq ≤ s.seq) q ss h.0) in
      sym (ap (λ (a : Option ℕ). newer (newest_at_or_below at (map seq_of (filter q ss))) a) front ∙ newer_swap (newest_at_or_below at (map seq_of (filter q ss))) (Some s.seq) ∙ first_newer s.seq (newest_at_or_below at (map seq_of (filter q ss))) back)
  part_head q s ss true false h rest e =
      let front : newest_at_or_below at (map seq_of (s ∷ filter q ss)) ≡ newest_at_or_below at (map seq_of (filter q ss)) = ap (λ c. slice_get (cond c (s.seq ∷ filter (λ seq. leb seq at) (map seq_of (filter q ss))) (filter (λ seq. leb seq at) (map seq_of (filter q ss)))) 0) e in
      rest ∙ sym (ap (λ (a : Option ℕ). newer a (newest_at_or_below at (map seq_of (filter (λ t. not (q t)) ss)))) front)
  part_head q s ss false false h rest e =
      let front : newest_at_or_below at (map seq_of (s ∷ filter (λ t. not (q t)) ss)) ≡ newest_at_or_below at (map seq_of (filter (λ t. not (q t)) ss)) = ap (λ c. slice_get (cond c (s.seq ∷ filter (λ seq. leb seq at) (map seq_of (filter (λ t. not (q t)) ss))) (filter (λ seq. leb seq at) (map seq_of (filter (λ t. not (q t)) ss)))) 0) e in
      rest ∙ sym (ap (λ (a : Option ℕ). newer (newest_at_or_below at (map seq_of (filter q ss))) a) front)

  pub newest_in_parts : (q : Span → Bool) (ss : List Span) → SpansDescend ss → newest_at_or_below at (map seq_of ss) ≡ newer (newest_at_or_below at (map seq_of (filter q ss))) (newest_at_or_below at (map seq_of (filter (λ t. not (q t)) ss)))
  newest_in_parts q [] h = refl
  newest_in_parts q (s ∷ ss) h = part_head q s ss (q s) (leb s.seq at) h (newest_in_parts q ss h.1) refl

-- ---- how many a list has, in two parts

count_head : (q : Span → Bool) (s : Span) (ss : List Span) (b : Bool) → length ss ≡ length (filter q ss) + length (filter (λ t. not (q t)) ss) → length (s ∷ ss) ≡ length (cond b (s ∷ filter q ss) (filter q ss)) + length (cond (not b) (s ∷ filter (λ t. not (q t)) ss) (filter (λ t. not (q t)) ss))
count_head q s ss true e = omega (arith, e)
count_head q s ss false e = omega (arith, e)

pub count_in_parts : (q : Span → Bool) (ss : List Span) → length ss ≡ length (filter q ss) + length (filter (λ t. not (q t)) ss)
count_in_parts q [] = omega arith
count_in_parts q (s ∷ ss) = count_head q s ss (q s) (count_in_parts q ss)

-- Facts about falling sequence numbers that follow from the newest one at or below a number.
use Rattle.std.proofs.Common.{◌≡◌, ℕ, zero, suc, ◌-◌, ◌<◌, ◌≤◌, Bool, true, false, cond, leb, eqb, IsTrue, List, [], ◌∷◌, Option, Some, None, Contains, length, get_or, filter, refl, sym, ap, ◌∙◌, arith}
use Rattle.std.specs.Prelude.{◌↔◌, not}
use Rattle.std.specs.List.{AllByRecursion, slice_get}
use Rattle.std.specs.List.Sorted.{IsStrictlySortedBy}
use Rattle.std.specs.declared.cmp.Ordering.TheVariants.{Less}
use Rattle.std.specs.Option.{is_some}
use Rattle.std.specs.Ordering.{nat_cmp, flip_args}
use Rattle.std.proofs.lemmas.Bool.{false≢true}
use Rattle.std.proofs.lemmas.Bool.Decides.{nat_tests}
use Rattle.std.proofs.lemmas.Option.{none-some, same_Some}
use Rattle.uc_run_entry.specs.Order.{IsFalling}

below : (x y : ℕ) → flip_args nat_cmp x y ≡ Less → y < x
below x y e = grind (arith, nat_tests)

all_below : (x : ℕ) (seqs : List ℕ) → AllByRecursion (λ y. flip_args nat_cmp x y ≡ Less) seqs → AllByRecursion (λ y. y < x) seqs
all_below x [] h = tt
all_below x (y ∷ seqs) h = (below x y h.0, all_below x seqs h.1)

all_upto : (x high : ℕ) (seqs : List ℕ) → x ≤ high → AllByRecursion (λ y. y < x) seqs → AllByRecursion (λ y. y ≤ high) seqs
all_upto x high [] le h = tt
all_upto x high (y ∷ seqs) le h = (omega (arith, le, h.0), all_upto x high seqs le h.1)

-- ---- all are at or below a number, if the newest is

upto_from : (a b : ℕ) → leb a b ≡ true → a ≤ b
upto_from a b e = grind (arith, nat_tests)

upto_to : (a b : ℕ) → a ≤ b → leb a b ≡ true
upto_to a b le = grind (arith, nat_tests)

pub upto_by : (high : ℕ) (seqs : List ℕ) (newest : ℕ) → IsFalling seqs → Some newest ≡ slice_get seqs 0 → IsTrue (leb newest high) ↔ AllByRecursion (λ n. n ≤ high) seqs
unfolding IsStrictlySortedBy
upto_by high [] newest falls e = absurd (none-some newest (sym e))
upto_by high (x ∷ seqs) newest falls e =
    let same : newest ≡ x = same_Some newest x e in (
      (λ t.
          let le : newest ≤ high = upto_from newest high t in
          (omega (arith, same, le), all_upto x high seqs (omega (arith, same, le)) (all_below x seqs falls.0))),
      (λ all. upto_to newest high (let le : x ≤ high = all.0 in omega (arith, same, le))),
    )

pub upto_none : (high : ℕ) (seqs : List ℕ) → None ≡ slice_get seqs 0 → AllByRecursion (λ n. n ≤ high) seqs
upto_none high [] e = tt
upto_none high (x ∷ seqs) e = absurd (none-some x e)

-- ---- all are at or above a number, if none is below it

from_head : (low x : ℕ) (seqs : List ℕ) (b : Bool) → leb x low ≡ b → slice_get (cond b (x ∷ filter (λ n. leb n low) seqs) (filter (λ n. leb n low) seqs)) 0 ≡ None → (low < x) × (slice_get (filter (λ n. leb n low) seqs) 0 ≡ None)
from_head low x seqs true e h = absurd (none-some x (sym h))
from_head low x seqs false e h = (grind (arith, nat_tests), h)

pub above_all : (low : ℕ) (seqs : List ℕ) → slice_get (filter (λ n. leb n low) seqs) 0 ≡ None → AllByRecursion (λ n. low < n) seqs
above_all low [] h = tt
above_all low (x ∷ seqs) h =
    let both : (low < x) × (slice_get (filter (λ n. leb n low) seqs) 0 ≡ None) = from_head low x seqs (leb x low) refl h in
    (both.0, above_all low seqs both.1)

none_head : (low x : ℕ) (seqs : List ℕ) (b : Bool) → leb x low ≡ b → low < x → slice_get (filter (λ n. leb n low) seqs) 0 ≡ None → slice_get (cond b (x ∷ filter (λ n. leb n low) seqs) (filter (λ n. leb n low) seqs)) 0 ≡ None
none_head low x seqs true e l h = absurd (grind (arith, nat_tests))
none_head low x seqs false e l h = h

pub none_below : (low : ℕ) (seqs : List ℕ) → AllByRecursion (λ n. low < n) seqs → slice_get (filter (λ n. leb n low) seqs) 0 ≡ None
none_below low [] h = refl
none_below low (x ∷ seqs) h = none_head low x seqs (leb x low) refl h.0 (none_below low seqs h.1)

all_is : {P Q : ℕ → Type 0} → ((n : ℕ) → P n → Q n) → (seqs : List ℕ) → AllByRecursion P seqs → AllByRecursion Q seqs
all_is f [] h = tt
all_is f (x ∷ seqs) h = (f x h.0, all_is f seqs h.1)

none_by : (o : Option ℕ) (b : Bool) → is_some o ≡ not b → IsTrue b ↔ (o ≡ None)
none_by None true e = ((λ t. refl), (λ none. refl))
none_by None false e = absurd (false≢true e)
none_by (Some n) true e = absurd (false≢true (sym e))
none_by (Some n) false e = ((λ t. absurd (false≢true t)), (λ none. absurd (none-some n (sym none))))

pub from_by : (low : ℕ) (seqs : List ℕ) (found : Option ℕ) (b : Bool) → 0 < low → found ≡ slice_get (filter (λ n. leb n (low - 1)) seqs) 0 → is_some found ≡ not b → IsTrue b ↔ AllByRecursion (λ n. low ≤ n) seqs
from_by low seqs found b some e f =
    let none : IsTrue b ↔ (found ≡ None) = none_by found b f in (
      (λ t. all_is (λ n l. omega (arith, l, some)) seqs (above_all (low - 1) seqs (sym e ∙ none.0 t))),
      (λ all. none.1 (e ∙ none_below (low - 1) seqs (all_is (λ n l. omega (arith, l, some)) seqs all))),
    )

-- ---- a number is among them, if it is the newest at or below itself

first_kept : (test : ℕ → Bool) (x n : ℕ) (seqs : List ℕ) (b : Bool) → slice_get (cond b (x ∷ filter test seqs) (filter test seqs)) 0 ≡ Some n → (slice_get (filter test seqs) 0 ≡ Some n → Contains seqs n) → Contains (x ∷ seqs) n
first_kept test x n seqs true e rest = (0, omega arith, same_Some x n e)
first_kept test x n seqs false e rest =
    let there : Contains seqs n = rest e in
    (suc there.0, omega (arith, there.1), there.2)

kept_contains : (test : ℕ → Bool) (n : ℕ) (seqs : List ℕ) → slice_get (filter test seqs) 0 ≡ Some n → Contains seqs n
kept_contains test n [] e = absurd (none-some n e)
kept_contains test n (x ∷ seqs) e = first_kept test x n seqs (test x) e (kept_contains test n seqs)

found_first : (n x : ℕ) (seqs : List ℕ) (b : Bool) → leb x n ≡ b → x ≡ n → slice_get (cond b (x ∷ filter (λ m. leb m n) seqs) (filter (λ m. leb m n) seqs)) 0 ≡ Some n
found_first n x seqs true e same = ap (λ (k : ℕ). Some k) same
found_first n x seqs false e same = absurd (grind (arith, nat_tests))

found_later : (n x : ℕ) (seqs : List ℕ) (b : Bool) → leb x n ≡ b → n < x → slice_get (filter (λ m. leb m n) seqs) 0 ≡ Some n → slice_get (cond b (x ∷ filter (λ m. leb m n) seqs) (filter (λ m. leb m n) seqs)) 0 ≡ Some n
found_later n x seqs true e l rest = absurd (grind (arith, nat_tests))
found_later n x seqs false e l rest = rest

all_at : (P : ℕ → Type 0) (seqs : List ℕ) (k d : ℕ) → k < length seqs → AllByRecursion P seqs → P (get_or seqs k d)
all_at P [] k d l h = absurd (omega (arith, l))
all_at P (x ∷ seqs) zero d l h = h.0
all_at P (x ∷ seqs) (suc k) d l h = all_at P seqs k d (omega (arith, l)) h.1

found_at : (n : ℕ) (seqs : List ℕ) → IsFalling seqs → (k : ℕ) → k < length seqs → get_or seqs k n ≡ n → slice_get (filter (λ m. leb m n) seqs) 0 ≡ Some n
unfolding IsStrictlySortedBy
found_at n [] falls k l e = absurd (omega (arith, l))
found_at n (x ∷ seqs) falls zero l e = found_first n x seqs (leb x n) refl e
found_at n (x ∷ seqs) falls (suc k) l e =
    let lt : get_or seqs k n < x = all_at (λ y. y < x) seqs k n (omega (arith, l)) (all_below x seqs falls.0) in
    found_later n x seqs (leb x n) refl (omega (arith, lt, e)) (found_at n seqs falls.1 k (omega (arith, l)) e)

pub among_by : (n found : ℕ) (seqs : List ℕ) (b : Bool) → IsFalling seqs → Some found ≡ slice_get (filter (λ m. leb m n) seqs) 0 → eqb found n ≡ b → IsTrue b ↔ Contains seqs n
among_by n found seqs true falls e f = (
  (λ t.
      let same : found ≡ n = grind (arith, nat_tests) in
      kept_contains (λ m. leb m n) n seqs (sym e ∙ ap (λ (k : ℕ). Some k) same)),
  (λ there. refl),
)
among_by n found seqs false falls e f = (
  (λ t. absurd (false≢true t)),
  (λ there.
      let same : found ≡ n = same_Some found n (e ∙ found_at n seqs falls there.0 there.1 there.2) in
      absurd (grind (arith, nat_tests))),
)

pub not_among : (n : ℕ) (seqs : List ℕ) → IsFalling seqs → None ≡ slice_get (filter (λ m. leb m n) seqs) 0 → IsTrue false ↔ Contains seqs n
not_among n seqs falls e = (
  (λ t. absurd (false≢true t)),
  (λ there. absurd (none-some n (e ∙ found_at n seqs falls there.0 there.1 there.2))),
)

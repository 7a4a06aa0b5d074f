-- Lists of which each element stands before the next.
use Rattle.std.proofs.Common.{◌≡◌, ℕ, Bool, true, false, IsTrue, List, [], ◌∷◌, refl, sym, ap, ◌∙◌}
use Rattle.std.specs.Prelude.{◌↔◌, ◌&&◌}
use Rattle.std.specs.List.{AllByRecursion, IsAllAdjacentAnswer}
use Rattle.std.specs.List.Sorted.{IsStrictlySortedBy}
use Rattle.std.specs.declared.cmp.Ordering.{Ordering}
use Rattle.std.specs.declared.cmp.Ordering.TheVariants.{Less, Equal, Greater}
use Rattle.std.specs.Ordering.{is_lt, is_le}
use Rattle.std.specs.Cmp.{IsTotalOrder}
use Rattle.std.specs.BTreeMap.Comparable.{le_lt_trans}
use Rattle.std.proofs.lemmas.Bool.{false≢true}
use Rattle.std.proofs.lemmas.Map.Lookups.{exact_bytes}
use Rattle.std.proofs.lemmas.Cmp.{nat_list_cmp_total, nat_cmp_total, then_total, back_total, on_total}
use Rattle.uc_run_entry.proofs.Neighbours.{AllPairs, pairs_by, sorted_by}
use Rattle.uc_run_entry.specs.declared.entry.Entry.{Entry}
use Rattle.uc_bytes.specs.Bytes.{bytes_cmp}
use Rattle.uc_run_entry.specs.Fragment.{Fragment}
use Rattle.uc_run_entry.specs.Order.{entry_cmp, AreInOrder, FirstHasKeys}

pub entry_total : IsTotalOrder entry_cmp
entry_total = then_total (on_total (λ (p : Entry). p.key) nat_list_cmp_total) (back_total (on_total (λ (p : Entry). p.seq) nat_cmp_total))

less_of : (o : Ordering) → IsTrue (is_lt o) ↔ (o ≡ Less)
less_of Less = ((λ t. refl), (λ e. refl))
less_of Equal = ((λ t. absurd (false≢true t)), (λ e. absurd cc))
less_of Greater = ((λ t. absurd (false≢true t)), (λ e. absurd cc))

pub points_sorted_by : (ps : List Entry) (b : Bool) → IsAllAdjacentAnswer (λ x y r. r ≡ is_lt (entry_cmp x y)) ps b → IsTrue b ↔ IsStrictlySortedBy entry_cmp ps
points_sorted_by ps b h = sorted_by entry_cmp entry_total (λ x y. is_lt (entry_cmp x y)) (λ x y. less_of (entry_cmp x y)) ps b h

-- ---- fragments

-- a fragment ends at or before the begin of the next, which has keys
abbrev pub is_followed_by : Fragment → Fragment → Bool
is_followed_by f g = is_le (bytes_cmp f.end g.begin) && is_lt (bytes_cmp g.begin g.end)

abbrev Follows : Fragment → Fragment → Type 0
Follows f g = IsTrue (is_followed_by f g)

both_true : (a b : Bool) → IsTrue a → IsTrue b → IsTrue (a && b)
both_true true true p q = refl
both_true true false p q = q
both_true false b p q = p

first_true : (a b : Bool) → IsTrue (a && b) → IsTrue a
first_true true b p = refl
first_true false b p = p

second_true : (a b : Bool) → IsTrue (a && b) → IsTrue b
second_true true b p = p
second_true false b p = absurd (false≢true p)

pub le_lt : (x y z : List ℕ) → is_le (bytes_cmp x y) ≡ true → is_lt (bytes_cmp y z) ≡ true → is_lt (bytes_cmp x z) ≡ true
le_lt x y z le lt = ap is_lt (le_lt_trans nat_list_cmp_total x y z le ((less_of (bytes_cmp y z)).0 lt))

lt_to_le : (o : Ordering) → is_lt o ≡ true → is_le o ≡ true
lt_to_le Less e = refl
lt_to_le Equal e = absurd cc
lt_to_le Greater e = absurd cc

pub le_le : (x y z : List ℕ) → is_lt (bytes_cmp x y) ≡ true → is_le (bytes_cmp y z) ≡ true → (o : Ordering) → bytes_cmp y z ≡ o → is_le (bytes_cmp x z) ≡ true
le_le x y z lt le Less e = lt_to_le (bytes_cmp x z) (ap is_lt (nat_list_cmp_total.trans x y z ((less_of (bytes_cmp x y)).0 lt) e))
le_le x y z lt le Equal e = lt_to_le (bytes_cmp x z) (sym (ap (λ (w : List ℕ). is_lt (bytes_cmp x w)) (exact_bytes y z e)) ∙ lt)
le_le x y z lt le Greater e = absurd (false≢true (ap is_le (sym e) ∙ le))

-- from f's end up to g's begin, g's keys, and from g's end up to h's begin
follows_far : (f g h : Fragment) → Follows f g → Follows g h → Follows f h
follows_far f g h p q =
    let to_end : is_lt (bytes_cmp f.end g.end) ≡ true = le_lt f.end g.begin g.end (first_true (is_le (bytes_cmp f.end g.begin)) (is_lt (bytes_cmp g.begin g.end)) p) (second_true (is_le (bytes_cmp f.end g.begin)) (is_lt (bytes_cmp g.begin g.end)) p) in
    let to_begin : is_le (bytes_cmp f.end h.begin) ≡ true = le_le f.end g.end h.begin to_end (first_true (is_le (bytes_cmp g.end h.begin)) (is_lt (bytes_cmp h.begin h.end)) q) (bytes_cmp g.end h.begin) refl in
    both_true (is_le (bytes_cmp f.end h.begin)) (is_lt (bytes_cmp h.begin h.end)) to_begin (second_true (is_le (bytes_cmp g.end h.begin)) (is_lt (bytes_cmp h.begin h.end)) q)

all_le : (f : Fragment) (fs : List Fragment) → AllByRecursion (Follows f) fs → AllByRecursion (λ g. is_le (bytes_cmp f.end g.begin) ≡ true) fs
all_le f [] h = tt
all_le f (g ∷ gs) h = (first_true (is_le (bytes_cmp f.end g.begin)) (is_lt (bytes_cmp g.begin g.end)) h.0, all_le f gs h.1)

first_keys : (f : Fragment) (fs : List Fragment) → AllByRecursion (Follows f) fs → FirstHasKeys fs
first_keys f [] h = tt
first_keys f (g ∷ gs) h = (second_true (is_le (bytes_cmp f.end g.begin)) (is_lt (bytes_cmp g.begin g.end)) h.0)

in_order : (fs : List Fragment) → FirstHasKeys fs → AllPairs Follows fs → AreInOrder fs
in_order [] first h = tt
in_order (f ∷ fs) first h = (first, all_le f fs h.0, in_order fs (first_keys f fs h.0) h.1)

all_follow : (f : Fragment) (fs : List Fragment) → AllByRecursion (λ g. is_le (bytes_cmp f.end g.begin) ≡ true) fs → AreInOrder fs → AllByRecursion (Follows f) fs
all_follow f [] h order = tt
all_follow f (g ∷ gs) h order = (both_true (is_le (bytes_cmp f.end g.begin)) (is_lt (bytes_cmp g.begin g.end)) h.0 order.0, all_follow f gs h.1 order.2)

pairs_follow : (fs : List Fragment) → AreInOrder fs → AllPairs Follows fs
pairs_follow [] order = tt
pairs_follow (f ∷ fs) order = (all_follow f fs order.1 order.2, pairs_follow fs order.2)

first_of_order : (fs : List Fragment) → AreInOrder fs → FirstHasKeys fs
first_of_order [] order = tt
first_of_order (f ∷ fs) order = order.0

-- what a test of the first one and one of all neighbours answer
pub in_order_by : (fs : List Fragment) (a b : Bool) → IsTrue a ↔ FirstHasKeys fs → IsAllAdjacentAnswer (λ x y r. r ≡ is_followed_by x y) fs b → IsTrue (a && b) ↔ AreInOrder fs
in_order_by fs a b first h =
    let by : IsTrue b ↔ AllPairs Follows fs = pairs_by Follows follows_far is_followed_by (λ x y. ((λ t. t), (λ t. t))) fs b h in (
      (λ t. in_order fs (first.0 (first_true a b t)) (by.0 (second_true a b t))),
      (λ order. both_true a b (first.1 (first_of_order fs order)) (by.1 (pairs_follow fs order))),
    )

-- The one fragment that may cover a key: the first that ends above it.
use Rattle.std.proofs.Common.{◌≡◌, ℕ, zero, suc, ◌<◌, ◌≤◌, Bool, true, false, cond, List, [], ◌∷◌, Option, Some, None, length, get_or, filter, refl, sym, ap, ◌∙◌, subst, arith}
use Rattle.std.specs.Prelude.{◌&&◌, MatchOption}
use Rattle.std.specs.List.{AllByRecursion, AllWithin, HoldsAt}
use Rattle.std.specs.List.Sorted.{IsPartitionedBy}
use Rattle.std.specs.declared.cmp.Ordering.{Ordering}
use Rattle.std.specs.declared.cmp.Ordering.TheVariants.{Less, Equal, Greater}
use Rattle.std.specs.Ordering.{is_lt, is_le, ordering_reverse}
use Rattle.std.proofs.lemmas.Bool.{false≢true}
use Rattle.std.proofs.lemmas.Cmp.{nat_list_cmp_total}
use Rattle.uc_bytes.specs.Bytes.{bytes_cmp}
use Rattle.uc_run_entry.specs.Fragment.{Fragment}
use Rattle.uc_run_entry.specs.Order.{AreInOrder}
use Rattle.uc_run_entry.specs.Run.{covers}
use Rattle.uc_run_entry.proofs.Covers.{before_begin}
use Rattle.uc_run_entry.proofs.Sorted.{le_lt, le_le}
use denote.Ref.{Bor}

module _ (key : List ℕ) where
  abbrev pub ends_by : Fragment → Bool
  ends_by f = is_le (bytes_cmp f.end key)

  abbrev pub covering : List Fragment → List Fragment
  covering fs = filter (λ g. covers g key) fs

  -- a fragment that doesn't end by the key ends above it
  above_by : (o : Ordering) → is_le o ≡ false → is_lt (ordering_reverse o) ≡ true
  above_by Less e = absurd (false≢true (sym e))
  above_by Equal e = absurd (false≢true (sym e))
  above_by Greater e = refl

  ends_above : (f : Fragment) → ends_by f ≡ false → is_lt (bytes_cmp key f.end) ≡ true
  ends_above f e = ap is_lt (nat_list_cmp_total.antisymm key f.end) ∙ above_by (bytes_cmp f.end key) e

  -- and one that ends by it doesn't cover it
  not_above : (o : Ordering) → is_le o ≡ true → is_lt (ordering_reverse o) ≡ false
  not_above Less e = refl
  not_above Equal e = refl
  not_above Greater e = absurd (false≢true e)

  and_none : (a b : Bool) → b ≡ false → (a && b) ≡ false
  and_none true b e = e
  and_none false b e = refl

  passed_by : (f : Fragment) → ends_by f ≡ true → covers f key ≡ false
  passed_by f e = and_none (is_le (bytes_cmp f.begin key)) (is_lt (bytes_cmp key f.end)) (ap is_lt (nat_list_cmp_total.antisymm key f.end) ∙ not_above (bytes_cmp f.end key) e)

  none_behind_end : (f : Fragment) (fs : List Fragment) → is_lt (bytes_cmp key f.end) ≡ true → AllByRecursion (λ g. is_le (bytes_cmp f.end g.begin) ≡ true) fs → covering fs ≡ []
  none_behind_end f [] lt le = refl
  none_behind_end f (g ∷ gs) lt le =
      ap (λ b. cond b (g ∷ covering gs) (covering gs)) (before_begin key f.end g.begin (bytes_cmp key f.end) (bytes_cmp f.end g.begin) (bytes_cmp g.begin key) refl refl refl lt le.0 (is_lt (bytes_cmp key g.end)))
      ∙ none_behind_end f gs lt le.1

  -- fragments of which the first few end by the key, and the others above it
  found_at : (fs : List Fragment) (place : ℕ) → AreInOrder fs → AllWithin (λ f. ends_by f ≡ true) fs 0 place → AllWithin (λ f. ends_by f ≡ false) fs place (length fs) → (d : Fragment) → place < length fs → covering fs ≡ cond (covers (get_or fs place d) key) (get_or fs place d ∷ []) []
  found_at [] place order low high d lt = absurd (omega (arith, lt))
  found_at (f ∷ fs) zero order low high d lt =
      ap (λ (gs : List Fragment). cond (covers f key) (f ∷ gs) gs) (none_behind_end f fs (ends_above f (high 0 d (omega arith) (omega arith))) order.1)
  found_at (f ∷ fs) (suc place) order low high d lt =
      ap (λ b. cond b (f ∷ covering fs) (covering fs)) (passed_by f (low 0 d (omega arith) (omega arith)))
      ∙ found_at fs place order.2 (λ k e l r. low (suc k) e (omega arith) (omega arith)) (λ k e l r. high (suc k) e (omega arith) (omega arith)) d (omega arith)

  none_at : (fs : List Fragment) → AllWithin (λ f. ends_by f ≡ true) fs 0 (length fs) → covering fs ≡ []
  none_at [] low = refl
  none_at (f ∷ fs) low =
      ap (λ b. cond b (f ∷ covering fs) (covering fs)) (passed_by f (low 0 f (omega arith) (omega arith)))
      ∙ none_at fs (λ k e l r. low (suc k) e (omega arith) (omega arith))

  pub found_by : (fs : List Fragment) (place : ℕ) → AreInOrder fs → place ≤ length fs → AllWithin (λ f. ends_by f ≡ true) fs 0 place → AllWithin (λ f. ends_by f ≡ false) fs place (length fs) →
      (r : Option (Bor Fragment)) → MatchOption r (length fs ≤ place) (λ x. (place < length fs) × HoldsAt (λ y. x.now ≡ y) fs place) →
      MatchOption r (covering fs ≡ []) (λ x. covering fs ≡ cond (covers x.now key) (x.now ∷ []) [])
  found_by fs place order within low high None past = none_at fs (λ k e l r. low k e l (omega (arith, r, past, within)))
  found_by fs place order within low high (Some x) here =
      let same : x.now ≡ get_or fs place x.now = here.1 x.now in
      subst (λ (f : Fragment). covering fs ≡ cond (covers f key) (f ∷ []) []) (sym same) (found_at fs place order low high x.now here.0)

  -- no fragment that ends by the key comes after one that doesn't
  ends_earlier : (f : Fragment) (fs : List Fragment) → AreInOrder (f ∷ fs) → (j : ℕ) (d : Fragment) → j < length fs → ends_by (get_or fs j d) ≡ true → ends_by f ≡ true
  ends_earlier f [] order j d l e = absurd (omega (arith, l))
  ends_earlier f (g ∷ gs) order zero d l e = le_le f.end g.end key (le_lt f.end g.begin g.end order.1.0 order.2.0) e (bytes_cmp g.end key) refl
  ends_earlier f (g ∷ gs) order (suc j) d l e = ends_earlier f gs (order.0, order.1.1, order.2.2) j d (omega (arith, l)) e

  pub partitioned : (fs : List Fragment) → AreInOrder fs → IsPartitionedBy ends_by fs
  partitioned [] order i j d le l e = absurd (omega (arith, l))
  partitioned (f ∷ fs) order zero zero d le l e = e
  partitioned (f ∷ fs) order zero (suc j) d le l e = ends_earlier f fs order j d (omega (arith, l)) e
  partitioned (f ∷ fs) order (suc i) zero d le l e = absurd (omega (arith, le))
  partitioned (f ∷ fs) order (suc i) (suc j) d le l e = partitioned fs order.2 i j d (omega (arith, le)) (omega (arith, l)) e

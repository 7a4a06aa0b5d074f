-- Fragments that don't cover a key may be left out of a search.
use Rattle.std.proofs.Common.{◌≡◌, ℕ, zero, suc, ◌-◌, ◌<◌, ◌≤◌, Bool, true, false, cond, List, [], ◌∷◌, length, get_or, take, drop, filter, refl, sym, ap, ◌∙◌, arith}
use Rattle.std.specs.Prelude.{◌&&◌}
use Rattle.std.specs.List.{AllByRecursion, AllWithin}
use Rattle.std.specs.declared.cmp.Ordering.{Ordering}
use Rattle.std.specs.declared.cmp.Ordering.TheVariants.{Less, Equal, Greater}
use Rattle.std.specs.Ordering.{is_lt, is_le, ordering_reverse}
use Rattle.std.proofs.lemmas.Bool.{false≢true}
use Rattle.std.proofs.lemmas.Cmp.{nat_list_cmp_total}
use Rattle.std.proofs.lemmas.List.{take_all, length-drop, get_or_default}
use Rattle.uc_bytes.specs.Bytes.{bytes_cmp}
use Rattle.uc_run_entry.specs.Fragment.{Fragment}
use Rattle.uc_run_entry.specs.Order.{AreInOrder}
use Rattle.uc_run_entry.specs.Run.{covers}
use Rattle.uc_run_entry.proofs.Covers.{before_begin}
use Rattle.uc_run_entry.proofs.Covering.{partitioned}
use Rattle.uc_run.specs.Cursors.{ends_by}

-- what holds of all fragments holds of the first
all-take : (P : Fragment → Type 0) (n : ℕ) (fs : List Fragment) → AllByRecursion P fs → AllByRecursion P (take n fs)
all-take P zero fs h = tt
all-take P (suc n) [] h = tt
all-take P (suc n) (f ∷ fs) h = (h.0, all-take P n fs h.1)

order-drop : (n : ℕ) (fs : List Fragment) → AreInOrder fs → AreInOrder (drop n fs)
order-drop zero fs h = h
order-drop (suc n) [] h = tt
order-drop (suc n) (f ∷ fs) h = order-drop n fs h.2

order-take : (n : ℕ) (fs : List Fragment) → AreInOrder fs → AreInOrder (take n fs)
order-take zero fs h = tt
order-take (suc n) [] h = tt
order-take (suc n) (f ∷ fs) h = (h.0, all-take (λ g. is_le (bytes_cmp f.end g.begin) ≡ true) n fs h.1, order-take n fs h.2)

-- those from a place on and the first are in order too
pub order-part : (k n : ℕ) (fs : List Fragment) → AreInOrder fs → AreInOrder (take k (drop n fs))
order-part k n fs h = order-take k (drop n fs) (order-drop n fs h)

module _ (key : List ℕ) where
  abbrev covering : List Fragment → List Fragment
  covering fs = filter (λ f. covers f key) fs

  not_below : (o : Ordering) → is_le o ≡ true → is_lt (ordering_reverse o) ≡ false
  not_below Less e = refl
  not_below Equal e = refl
  not_below Greater e = absurd (false≢true e)

  and_none : (a b : Bool) → b ≡ false → (a && b) ≡ false
  and_none true b e = e
  and_none false b e = refl

  -- a fragment that ends by the key doesn't cover it
  ended : (f : Fragment) → ends_by key f ≡ true → covers f key ≡ false
  ended f e = and_none (is_le (bytes_cmp f.begin key)) (is_lt (bytes_cmp key f.end)) (ap is_lt (nat_list_cmp_total.antisymm key f.end) ∙ not_below (bytes_cmp f.end key) e)

  none_ended : (n : ℕ) (fs : List Fragment) → AllWithin (λ f. ends_by key f ≡ true) fs 0 n → n ≤ length fs → covering (drop n fs) ≡ covering fs
  none_ended zero fs h le = refl
  none_ended (suc n) [] h le = refl
  none_ended (suc n) (f ∷ fs) h le =
      none_ended n fs (λ k d low l. h (suc k) d (omega arith) (omega (arith, l))) (omega (arith, le))
      ∙ sym (ap (λ b. cond b (f ∷ covering fs) (covering fs)) (ended f (h 0 f (omega arith) (omega arith))))

  -- those up to one that ends by the key may be left out
  pub behind_ended : (fs : List Fragment) (n : ℕ) (f : Fragment) → AreInOrder fs → 0 < n → n ≤ length fs → f ≡ get_or fs (n - 1) f → ends_by key f ≡ true → covering (take (length fs - n) (drop n fs)) ≡ covering fs
  behind_ended fs n f order some le is e =
      let whole : take (length fs - n) (drop n fs) ≡ drop n fs = take_all (length fs - n) (drop n fs) (let l : length (drop n fs) ≡ length fs - n = length-drop n fs in omega (arith, l)) in
      ap covering whole
      ∙ none_ended n fs (λ k d low l. partitioned key fs order k (n - 1) d (omega (arith, l)) (omega (arith, some, le))
      (ap (ends_by key) (get_or_default fs (n - 1) d f (omega (arith, some, le)) ∙ sym is) ∙ e)) le

  -- after one that ends above the key none covers it
  above_by : (o : Ordering) → is_le o ≡ false → is_lt (ordering_reverse o) ≡ true
  above_by Less e = absurd (false≢true (sym e))
  above_by Equal e = absurd (false≢true (sym e))
  above_by Greater e = refl

  none_above : (f : Fragment) (fs : List Fragment) → is_lt (bytes_cmp key f.end) ≡ true → AllByRecursion (λ g. is_le (bytes_cmp f.end g.begin) ≡ true) fs → covering fs ≡ []
  none_above f [] lt le = refl
  none_above f (g ∷ gs) lt le =
      ap (λ b. cond b (g ∷ covering gs) (covering gs)) (before_begin key f.end g.begin (bytes_cmp key f.end) (bytes_cmp f.end g.begin) (bytes_cmp g.begin key) refl refl refl lt le.0 (is_lt (bytes_cmp key g.end)))
      ∙ none_above f gs lt le.1

  pub first_alone : (fs : List Fragment) (x : Fragment) → AreInOrder fs → x ≡ get_or fs 0 x → ends_by key x ≡ false → covering (take 1 fs) ≡ covering fs
  first_alone [] x order is e = refl
  first_alone (f ∷ fs) x order is e =
      let above : is_lt (bytes_cmp key f.end) ≡ true = ap is_lt (nat_list_cmp_total.antisymm key f.end) ∙ above_by (bytes_cmp f.end key) (ap (ends_by key) (sym is) ∙ e) in
      ap (λ (gs : List Fragment). cond (covers f key) (f ∷ gs) gs) (sym (none_above f fs above order.1))

-- The newest of falling sequences, in place of all of them.
use Rattle.std.proofs.Common.{◌≡◌, ℕ, suc, ◌<◌, ◌≤◌, Bool, true, false, cond, leb, ltb, List, [], ◌∷◌, ◌++◌, map, filter, refl, sym, ap, ◌∙◌, arith}
use Rattle.std.specs.Prelude.{◌&&◌, Option, Some, None, option_map}
use Rattle.std.specs.List.{AllByRecursion, cons_option, slice_get}
use Rattle.std.specs.List.Sorted.{IsStrictlySortedBy}
use Rattle.std.specs.Option.{option_to_list}
use Rattle.std.specs.declared.cmp.Ordering.TheVariants.{Less}
use Rattle.std.specs.Ordering.{nat_cmp}
use Rattle.std.proofs.lemmas.Bool.{false≢true}
use Rattle.std.proofs.lemmas.Bool.Decides.{nat_tests}
use Rattle.uc_oper.specs.Operation.{Operation}
use Rattle.uc_run_entry.proofs.Filters.{filter-swap, filter-implied}
use Rattle.uc_run_entry.specs.declared.entry.Entry.{Entry}
use Rattle.uc_run_entry.specs.declared.entry.What.{What}
use Rattle.uc_run_entry.specs.Lookup.{above_newest}
use Rattle.uc_run_entry.specs.Order.{IsFalling}
use Rattle.uc_compact.specs.Stripes.{Stripe, Keeping, is_in, is_bottom, stripe_of}
use Rattle.uc_compact.specs.Output.{greatest, what_kept, seq_kept, seqs_kept}
use Rattle.uc_compact.specs.Choice.{point_for}
use Rattle.uc_compact.proofs.Choosing.{greatest_first}
use Rattle.uc_compact.proofs.NestedLists.{all-map, all-filter, none-passed}
use Rattle.uc_compact.proofs.Parted.{Rise}
use Rattle.uc_compact.proofs.NumbersFall.{falling_filter, filter_both}
use Rattle.uc_compact.proofs.StripeSteps.{still_in}
use Rattle.uc_compact.proofs.Onward.{less_number, first_above, seq_step, pushed, newest_is, kept_of_own, append-none, none_left, no_seqs_left}

lower_than_first : (x : ℕ) (xs : List ℕ) → AllByRecursion (λ y. nat_cmp y x ≡ Less) xs → AllByRecursion (λ y. y < x) xs
lower_than_first x xs h = all-map (λ y. nat_cmp y x ≡ Less) (λ y. y < x) (λ y e. less_number y x e) xs h

-- ---- the newest above a number

not_above : (a x y : ℕ) → ltb a x ≡ false → y < x → ltb a y ≡ false
not_above a x y e l = grind (arith, nat_tests)

first_put : (a x : ℕ) (xs : List ℕ) (b : Bool) → ltb a x ≡ b → AllByRecursion (λ y. y < x) xs → slice_get (cond b (x ∷ []) []) 0 ≡ slice_get (cond b (x ∷ filter (λ n. ltb a n) xs) (filter (λ n. ltb a n) xs)) 0
first_put a x xs true e h = refl
first_put a x xs false e h = sym (ap (λ (ys : List ℕ). slice_get ys 0) (none-passed (λ n. ltb a n) xs (all-map (λ y. y < x) (λ y. ltb a y ≡ false) (λ y l. not_above a x y e l) xs h)))

first_above_only : (a : ℕ) (xs : List ℕ) → IsFalling xs → slice_get (filter (λ n. ltb a n) (option_to_list (slice_get xs 0))) 0 ≡ slice_get (filter (λ n. ltb a n) xs) 0
unfolding IsStrictlySortedBy
first_above_only a [] h = refl
first_above_only a (x ∷ xs) h = first_put a x xs (ltb a x) refl (lower_than_first x xs h.0)

-- the newest of a stripe is the newest up to its end, if that is above its begin
pub newest_in : (s : Stripe) (xs : List ℕ) → IsFalling xs → slice_get (filter (λ n. ltb s.above n) (option_to_list (slice_get (filter (λ n. leb n s.upto) xs) 0))) 0 ≡ slice_get (filter (is_in s) xs) 0
newest_in s xs h =
    first_above_only s.above (filter (λ n. leb n s.upto) xs) (falling_filter (λ n. leb n s.upto) xs h)
    ∙ ap (λ (ys : List ℕ). slice_get ys 0) (filter-swap (λ n. ltb s.above n) (λ n. leb n s.upto) xs ∙ filter_both (λ n. ltb s.above n) (λ n. leb n s.upto) xs)

-- ---- a point needs the newest alone

pub newest_alone : (m : Operation) (bottom : Bool) (key : List ℕ) (ps : List Entry) (xs : List ℕ) → IsFalling xs → point_for m bottom key ps (option_to_list (slice_get xs 0)) ≡ point_for m bottom key ps xs
unfolding IsStrictlySortedBy
newest_alone m bottom key ps [] h = refl
newest_alone m bottom key ps (x ∷ xs) h =
    let one : greatest (x ∷ []) ≡ x = greatest_first x [] tt in
    let all : greatest (x ∷ xs) ≡ x = greatest_first x xs (lower_than_first x xs h.0) in
    let top : ℕ = greatest (map (λ (p : Entry). p.seq) ps) in
    ap (λ g. cond (ltb 0 top) (option_map (λ (what : What). record { key = key; seq = top; what = what }) (what_kept m bottom (above_newest m ps (x ∷ xs)) (ltb top g))) None) (one ∙ sym all)

-- ---- what is kept of a stripe

first_of : (n : ℕ) (rest : List ℕ) → slice_get rest 0 ≡ Some n → AllByRecursion (λ x. 0 < x) rest → 0 < n
first_of n [] first some = absurd cc
first_of n (x ∷ xs) first some = let same : n ≡ x = cc in let l : 0 < x = some.0 in omega (arith, same, l)

first_passes : (test : ℕ → Bool) (n : ℕ) (rest : List ℕ) → slice_get rest 0 ≡ Some n → test n ≡ true → slice_get (filter test rest) 0 ≡ Some n
first_passes test n [] first e = absurd cc
first_passes test n (x ∷ xs) first e =
    let same : n ≡ x = cc in
    ap (λ b. slice_get (cond b (x ∷ filter test xs) (filter test xs)) 0) (ap test (sym same) ∙ e) ∙ ap (λ (k : ℕ). Some k) (sym same)

upto_below : (s : Stripe) (n : ℕ) → s.above < n → is_in s n ≡ false → s.upto ≤ n
upto_below s n l e = by (ltb s.above n) (leb n s.upto) refl refl e
  where
    by : (a b : Bool) → ltb s.above n ≡ a → leb n s.upto ≡ b → (a && b) ≡ false → s.upto ≤ n
    by true true f g h = absurd (false≢true (sym h))
    by true false f g h = grind (arith, nat_tests)
    by false b f g h = absurd (grind (arith, nat_tests))

module _ (k : Keeping) (s : Stripe) (n : ℕ) (seqs rest : List ℕ) (fall : IsFalling rest) (some : AllByRecursion (λ x. 0 < x) rest) (first : slice_get rest 0 ≡ Some n) where
  own_is : (o : Option ℕ) → is_bottom k s ≡ false → o ≡ slice_get (filter (is_in s) rest) 0 → o ≡ seq_kept k rest s
  own_is o bottom e =
      sym (kept_of_own k rest s (filter (is_in s) rest) false o refl bottom
      (newest_is (filter (is_in s) rest) false o (falling_filter (is_in s) rest fall) (all-filter (λ x. 0 < x) (is_in s) rest some) e))

  pub bottom_keeps_none : is_bottom k s ≡ true → None ≡ seq_kept k rest s
  bottom_keeps_none bottom = sym (kept_of_own k rest s (filter (is_in s) rest) true None refl bottom refl)

  pub first_is_kept : is_bottom k s ≡ false → is_in s n ≡ true → Some n ≡ seq_kept k rest s
  first_is_kept bottom here = own_is (Some n) bottom (sym (first_passes (is_in s) n rest first here))

  pub newest_is_kept : (o : Option ℕ) → is_bottom k s ≡ false → is_in s n ≡ false → s ≡ stripe_of k.keeps n → ((at : ℕ) → at ≤ n → filter (λ x. leb x at) seqs ≡ filter (λ x. leb x at) rest) → o ≡ slice_get (filter (is_in s) seqs) 0 → o ≡ seq_kept k rest s
  newest_is_kept o bottom out is same e =
      let l : s.above < n = first_above k.keeps n s (first_of n rest first some) is in
      own_is o bottom
      (e ∙ ap (λ (ys : List ℕ). slice_get ys 0)
      (sym (still_in (λ x. x) s s.upto (omega arith) seqs) ∙ ap (λ (ys : List ℕ). filter (is_in s) ys) (same s.upto (upto_below s n l out)) ∙ still_in (λ x. x) s s.upto (omega arith) rest))

-- ---- from the newest on, stripe by stripe

-- one more than a number, and 0 for none
abbrev pub room : Option ℕ → ℕ
room None = 0
room (Some n) = suc n

within_put : (a x : ℕ) (xs : List ℕ) (b : Bool) → leb x a ≡ b → room (slice_get (filter (λ n. leb n a) xs) 0) ≤ suc a → room (slice_get (cond b (x ∷ filter (λ n. leb n a) xs) (filter (λ n. leb n a) xs)) 0) ≤ suc a
within_put a x xs true e h = let le : x ≤ a = grind (arith, nat_tests) in omega (arith, le)
within_put a x xs false e h = h

within : (a : ℕ) (xs : List ℕ) → room (slice_get (filter (λ n. leb n a) xs) 0) ≤ suc a
within a [] = omega arith
within a (x ∷ xs) = within_put a x xs (leb x a) refl (within a xs)

-- what is kept of what is left, of which the first is next, completes what is kept of all
pub record KeepsOn (k : Keeping) (seqs kept : List ℕ) (next : Option ℕ) : Type 0 where
  pub rest : List ℕ
  pub first : next ≡ slice_get rest 0
  pub fall : IsFalling rest
  pub from_one : AllByRecursion (λ x. 0 < x) rest
  pub same : (n : ℕ) → next ≡ Some n → (at : ℕ) → at ≤ n → filter (λ x. leb x at) seqs ≡ filter (λ x. leb x at) rest
  pub so_far : kept ++ seqs_kept k rest ≡ seqs_kept k seqs

pub keeps_start : (k : Keeping) (seqs kept : List ℕ) (next : Option ℕ) → IsFalling seqs → AllByRecursion (λ x. 0 < x) seqs → kept ≡ [] → next ≡ slice_get seqs 0 → KeepsOn k seqs kept next
keeps_start k seqs kept next fall some none first = record {
  rest = seqs;
  first = first;
  fall = fall;
  from_one = some;
  same = λ n e at le. refl;
  so_far = ap (λ (ys : List ℕ). ys ++ seqs_kept k seqs) none;
}

module _ (k : Keeping) (seqs kept : List ℕ) (next : Option ℕ) (w : KeepsOn k seqs kept next) (n : ℕ) (is_next : next ≡ Some n) (s : Stripe) (is : s ≡ stripe_of k.keeps n) where
  pub first_left : slice_get w.rest 0 ≡ Some n
  first_left = sym w.first ∙ is_next

  above_less : s.above < n
  above_less = first_above k.keeps n s (first_of n w.rest first_left w.from_one) is

  pub keeps_fewer : (later : Option ℕ) → later ≡ slice_get (filter (λ x. leb x s.above) seqs) 0 → room later < room next
  keeps_fewer later e =
      let le : room (slice_get (filter (λ x. leb x s.above) seqs) 0) ≤ suc s.above = within s.above seqs in
      let same : room later ≡ room (slice_get (filter (λ x. leb x s.above) seqs) 0) = ap room e in
      let now : room next ≡ suc n = ap room is_next in
      omega (arith, le, same, now, above_less)

  same_below : filter (λ x. leb x s.above) seqs ≡ filter (λ x. leb x s.above) w.rest
  same_below = w.same n is_next s.above (let l : s.above < n = above_less in omega (arith, l))

  leb_more : (at x : ℕ) → at ≤ s.above → leb x at ≡ true → leb x s.above ≡ true
  leb_more at x le e = grind (arith, nat_tests)

  later_below : (later : Option ℕ) (m : ℕ) → later ≡ slice_get (filter (λ x. leb x s.above) seqs) 0 → later ≡ Some m → m ≤ s.above
  later_below later m e f =
      let le : room (slice_get (filter (λ x. leb x s.above) seqs) 0) ≤ suc s.above = within s.above seqs in
      let same : room (Some m) ≡ room (slice_get (filter (λ x. leb x s.above) seqs) 0) = ap room (sym f ∙ e) in
      omega (arith, le, same)

  pub keeps_go_on : Rise k.keeps → (o : Option ℕ) → o ≡ seq_kept k w.rest s → (later : Option ℕ) → later ≡ slice_get (filter (λ x. leb x s.above) seqs) 0 → (more : List ℕ) → more ≡ kept ++ cons_option o [] → KeepsOn k seqs more later
  keeps_go_on rise o made later e more grown = record {
    rest = filter (λ x. leb x s.above) w.rest;
    first = e ∙ ap (λ (ys : List ℕ). slice_get ys 0) same_below;
    fall = falling_filter (λ x. leb x s.above) w.rest w.fall;
    from_one = all-filter (λ x. 0 < x) (λ x. leb x s.above) w.rest w.from_one;
    same = λ m f at le.
        let low : m ≤ s.above = later_below later m e f in
        let down : at ≤ s.above = omega (arith, low, le) in
        let up : at ≤ n = (let l : s.above < n = above_less in omega (arith, l, down)) in
        w.same n is_next at up
        ∙ sym (filter-implied (λ x. leb x at) (λ x. leb x s.above) (λ x t. leb_more at x down t) w.rest);
    so_far = ap (λ (ys : List ℕ). ys ++ seqs_kept k (filter (λ x. leb x s.above) w.rest)) grown
        ∙ pushed kept (seqs_kept k w.rest) (seqs_kept k (filter (λ x. leb x s.above) w.rest)) (seqs_kept k seqs) o
        (seq_step k rise w.rest n first_left w.fall s is ∙ ap (λ (p : Option ℕ). cons_option p (seqs_kept k (filter (λ x. leb x s.above) w.rest))) (sym made)) w.so_far;
  }

pub keeps_end : (k : Keeping) (seqs kept : List ℕ) (next : Option ℕ) → KeepsOn k seqs kept next → next ≡ None → kept ≡ seqs_kept k seqs
keeps_end k seqs kept next w none =
    append-none kept (seqs_kept k w.rest) (seqs_kept k seqs) (ap (seqs_kept k) (none_left w.rest (sym w.first ∙ none)) ∙ no_seqs_left k) w.so_far

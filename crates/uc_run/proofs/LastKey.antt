-- The point just before the place of a search has the greatest key that lies before it.
use Rattle.std.proofs.Common.{◌≡◌, ℕ, zero, suc, ◌+◌, ◌-◌, ◌<◌, ◌≤◌, min, Bool, true, false, cond, ltb, List, [], ◌∷◌, length, filter, get_or, map, Option, Some, None, refl, sym, ap, ◌∙◌, subst, ⊎_elim, arith}
use Rattle.std.specs.Prelude.{option_map}
use Rattle.std.specs.List.{AllByRecursion, AllWithin, slice_get}
use Rattle.std.specs.List.Sorted.{IsStrictlySortedBy, IsPartitionPoint}
use Rattle.std.specs.declared.cmp.Ordering.TheVariants.{Less}
use Rattle.std.specs.Ordering.{is_le}
use Rattle.std.proofs.lemmas.Bool.{false≢true}
use Rattle.std.proofs.lemmas.Bool.Decides.{nat_tests}
use Rattle.std.proofs.lemmas.Cmp.{nat_list_cmp_total, tied_itself}
use Rattle.std.proofs.lemmas.List.Elements.{All-contains, All-from_recursion}
use Rattle.std.proofs.lemmas.List.Sums.{length-filter}
use Rattle.std.proofs.lemmas.Option.{get_or_from_slice_get, slice_get-get_or}
use Rattle.uc_bytes.specs.Bytes.{bytes_cmp}
use Rattle.uc_run_entry.specs.declared.entry.Entry.{Entry}
use Rattle.uc_run_entry.specs.declared.entry.What.TheVariants.{Delete}
use Rattle.uc_run_entry.specs.Order.{entry_cmp}
use Rattle.uc_run_entry.specs.Seek.{is_passed}
use Rattle.uc_run.specs.BackCursors.{is_before, end_place, point_before, IsGreatestKey, IsPreviousKey}
use Rattle.uc_run.proofs.Order.{key_before, passed_before}

-- where there is no bound all points are counted
all_pass : (points : List Entry) → length points ≡ length (filter (λ p. is_before None p.key) points)
all_pass [] = refl
all_pass (p ∷ ps) = ap suc (all_pass ps)

pub all_counted : (points : List Entry) → length points ≡ end_place points None
all_counted points = all_pass points ∙ length-filter (λ (p : Entry). is_before None p.key) points

key_le : (p q : Entry) → entry_cmp p q ≡ Less → is_le (bytes_cmp p.key q.key) ≡ true
key_le p q less =
    ⊎_elim
    (λ below. ap is_le below)
    (λ same. subst (λ (key : List ℕ). is_le (bytes_cmp p.key key) ≡ true) same (ap is_le (tied_itself nat_list_cmp_total p.key)))
    (key_before p q less)

keys_above : (p : Entry) (qs : List Entry) → AllByRecursion (λ q. entry_cmp p q ≡ Less) qs → AllByRecursion (λ key. is_le (bytes_cmp p.key key) ≡ true) (map (λ q. q.key) qs)
keys_above p [] h = tt
keys_above p (q ∷ qs) h = (key_le p q h.0, keys_above p qs h.1)

before_by : (high : Option (List ℕ)) (p q : Entry) → entry_cmp p q ≡ Less → is_before high q.key ≡ true → is_before high p.key ≡ true
before_by None p q less e = refl
before_by (Some high) p q less e = passed_before high false p q less e

module _ (high : Option (List ℕ)) where
  abbrev test : Entry → Bool
  test p = is_before high p.key

  -- after a point that isn't below the bound none is
  none_after : (p : Entry) (qs : List Entry) → test p ≡ false → AllByRecursion (λ q. entry_cmp p q ≡ Less) qs → AllByRecursion (λ q. test q ≡ false) qs
  none_after p [] e h = tt
  none_after p (q ∷ qs) e h = (by (test q) refl, none_after p qs e h.1)
    where
      by : (b : Bool) → test q ≡ b → test q ≡ false
      by true f = absurd (false≢true (sym e ∙ before_by high p q h.0 f))
      by false f = f

  none_counted : (qs : List Entry) → AllByRecursion (λ q. test q ≡ false) qs → length (filter test qs) ≡ 0
  none_counted [] h = refl
  none_counted (q ∷ qs) h = ap (λ b. length (cond b (q ∷ filter test qs) (filter test qs))) h.0 ∙ none_counted qs h.1

  none_greater : (key : List ℕ) (qs : List Entry) → AllByRecursion (λ q. test q ≡ false) qs → AllByRecursion (λ q. test q ≡ true → is_le (bytes_cmp q.key key) ≡ true) qs
  none_greater key [] h = tt
  none_greater key (q ∷ qs) h = ((λ below. absurd (false≢true (sym h.0 ∙ below))), none_greater key qs h.1)

  here : (p : Entry) (ps : List Entry) → test p ≡ true → AllByRecursion (λ q. test q ≡ false) ps → IsGreatestKey (p ∷ ps) high p.key
  here p ps e none = record {
    of_a_point = (0, omega arith, refl);
    below = e;
    greatest = ((λ below. ap is_le (tied_itself nat_list_cmp_total p.key)), none_greater p.key ps none);
  }

  later : (p : Entry) (ps : List Entry) (key : List ℕ) → AllByRecursion (λ q. entry_cmp p q ≡ Less) ps → IsGreatestKey ps high key → IsGreatestKey (p ∷ ps) high key
  later p ps key h g =
      let at_most = All-contains (λ k. is_le (bytes_cmp p.key k) ≡ true) (map (λ q. q.key) ps) key (All-from_recursion (λ k. is_le (bytes_cmp p.key k) ≡ true) (map (λ q. q.key) ps) (keys_above p ps h)) g.of_a_point in
      record {
        of_a_point = (suc g.of_a_point.0, omega (arith, g.of_a_point.1), g.of_a_point.2);
        below = g.below;
        greatest = ((λ below. at_most), g.greatest);
      }

  abbrev key_at : List Entry → ℕ → Option (List ℕ)
  key_at ps n = option_map (λ p. p.key) (point_before ps n)

  more : (p : Entry) (ps : List Entry) (n : ℕ) → n ≡ length (filter test ps) → test p ≡ true → AllByRecursion (λ q. entry_cmp p q ≡ Less) ps → IsPreviousKey ps high (key_at ps n) → IsPreviousKey (p ∷ ps) high (key_at (p ∷ ps) (suc n))
  more p ps zero is e h next = here p ps e next
  more p ps (suc n) is e h next = by (key_at ps (suc n)) next
    where
      by : (found : Option (List ℕ)) → IsPreviousKey ps high found → IsPreviousKey (p ∷ ps) high found
      by None none = let no : length (filter test ps) ≡ 0 = none_counted ps none in absurd (omega (arith, is, no))
      by (Some key) g = later p ps key h g

  by_filter : (ps : List Entry) → IsStrictlySortedBy entry_cmp ps → IsPreviousKey ps high (key_at ps (length (filter test ps)))
  unfolding IsStrictlySortedBy
  by_filter [] h = tt
  by_filter (p ∷ ps) h = by (test p) refl (by_filter ps h.1)
    where
      by : (b : Bool) → test p ≡ b → IsPreviousKey ps high (key_at ps (length (filter test ps))) → IsPreviousKey (p ∷ ps) high (key_at (p ∷ ps) (length (cond b (p ∷ filter test ps) (filter test ps))))
      by true e next = more p ps (length (filter test ps)) refl e h.0 next
      by false e next =
          let none = none_after p ps e h.0 in
          subst (λ n. IsPreviousKey (p ∷ ps) high (key_at (p ∷ ps) n)) (sym (none_counted ps none)) (e, none)

  -- what was found just before that place is the previous key
  pub found_is_previous : (ps : List Entry) (place : ℕ) (found : Option (List ℕ)) → IsStrictlySortedBy entry_cmp ps → place ≡ end_place ps high → found ≡ option_map (λ p. p.key) (point_before ps place) → IsPreviousKey ps high found
  found_is_previous ps place found h at e =
      subst (IsPreviousKey ps high) (sym (e ∙ ap (key_at ps) (at ∙ sym (length-filter test ps)))) (by_filter ps h)

-- a walk back from a place has come to the first that passes, if none of those after it do
module _ {X : Type 0} (Passes Fails : X → Type 0) (never : (x : X) → Passes x → Fails x → ⊥) where
  pub back_ends : (xs : List X) (place passed m : ℕ) (x : X) → place ≤ length xs → passed < place → IsPartitionPoint Passes Fails xs m → AllWithin Fails xs (place - passed) place → Passes (get_or xs (place - passed - 1) x) → place - passed ≡ min place m
  back_ends xs place zero m x within lt point after passes = by (ltb m place) refl
    where
      by : (b : Bool) → ltb m place ≡ b → place - 0 ≡ min place m
      by true e =
          let below : m < place = grind (arith, nat_tests) in
          absurd (never (get_or xs (place - 0 - 1) x) passes (point.1 (place - 0 - 1) x (omega (arith, below)) (omega (arith, within, lt))))
      by false e = let above : place ≤ m = grind (arith, nat_tests) in omega (arith, above)
  back_ends xs place (suc passed) m x within lt point after passes = by (ltb m (place - suc passed)) refl
    where
      at_most : (b : Bool) → ltb (place - suc passed) m ≡ b → m ≤ place - suc passed
      at_most true e =
          let below : place - suc passed < m = grind (arith, nat_tests) in
          absurd (never (get_or xs (place - suc passed) x) (point.0 (place - suc passed) x (omega arith) below) (after (place - suc passed) x (omega arith) (omega (arith, lt))))
      at_most false e = let above : m ≤ place - suc passed = grind (arith, nat_tests) in above

      by : (b : Bool) → ltb m (place - suc passed) ≡ b → place - suc passed ≡ min place m
      by true e =
          let below : m < place - suc passed = grind (arith, nat_tests) in
          absurd (never (get_or xs (place - suc passed - 1) x) passes (point.1 (place - suc passed - 1) x (omega (arith, below)) (omega (arith, within, lt))))
      by false e =
          let above : place - suc passed ≤ m = grind (arith, nat_tests) in
          let most : m ≤ place - suc passed = at_most (ltb (place - suc passed) m) refl in
          omega (arith, above, most)

-- one point more that doesn't pass
pub back_more : {X : Type 0} (Fails : X → Type 0) (xs : List X) (place passed : ℕ) (x : X) → passed < place → slice_get xs (place - passed - 1) ≡ Some x → Fails x → AllWithin Fails xs (place - passed) place → AllWithin Fails xs (place - (passed + 1)) place
back_more Fails xs place passed x lt there fails after k d low l = by (ltb k (place - passed)) refl
  where
    by : (b : Bool) → ltb k (place - passed) ≡ b → Fails (get_or xs k d)
    by true e =
        let below : k < place - passed = grind (arith, nat_tests) in
        let at : k ≡ place - passed - 1 = omega (arith, below, low) in
        subst Fails (sym (get_or_from_slice_get xs k x d (ap (λ n. slice_get xs n) at ∙ there))) fails
    by false e = let ge : place - passed ≤ k = grind (arith, nat_tests) in after k d ge l

-- a walk stays where the point before it, if there is one, is below the search
pub stays_back : (points : List Entry) (key : List ℕ) (place m : ℕ) → place ≤ length points → IsPartitionPoint (λ (p : Entry). is_passed key false p.key ≡ true) (λ (p : Entry). is_passed key false p.key ≡ false) points m → ((p : Entry) → point_before points place ≡ Some p → is_passed key false p.key ≡ true) → place ≡ min place m
stays_back points key zero m within point below = omega arith
stays_back points key (suc n) m within point below =
    let lt : n < length points = omega (arith, within) in
    let last : Entry = get_or points n none_such in
    let nothing : suc n ≡ suc n - 0 = omega arith in
    nothing ∙ back_ends (λ (p : Entry). is_passed key false p.key ≡ true) (λ (p : Entry). is_passed key false p.key ≡ false) (λ p passes fails. false≢true (sym fails ∙ passes))
    points (suc n) 0 m last within (omega arith) point (λ k d low l. absurd (omega (arith, low, l)))
    (subst (λ (p : Entry). is_passed key false p.key ≡ true) (same_there n lt ∙ ap (λ k. get_or points k (get_or points n none_such)) (let at : n ≡ suc n - 0 - 1 = omega arith in at)) (below last (slice_get-get_or points n none_such lt)))
  where
    none_such : Entry
    none_such = record { key = []; seq = 0; what = Delete }

    same_there : (n : ℕ) → n < length points → get_or points n none_such ≡ get_or points n (get_or points n none_such)
    same_there n lt = sym (get_or_from_slice_get points n (get_or points n none_such) (get_or points n none_such) (slice_get-get_or points n none_such lt))

-- The least number, and the least key, which is among those with that number.
use Rattle.std.proofs.Common.{◌≡◌, ℕ, zero, suc, ◌+◌, ◌-◌, ◌^◌, ◌<◌, ◌≤◌, inl, inr, Bool, true, false, cond, eqb, ltb, List, [], ◌∷◌, length, get_or, map, take, Option, Some, None, refl, sym, ap, ◌∙◌, subst, arith}
use Rattle.std.specs.Prelude.{unwrap_or, IfSome}
use Rattle.std.specs.List.{All, AllByRecursion, AllWithin, Contains}
use Rattle.std.proofs.lemmas.Bool.Decides.{nat_tests}
use Rattle.std.proofs.lemmas.List.{get_or-map, length-map, take_all}
use Rattle.std.proofs.lemmas.List.Elements.{All-head, All-tail, All-cons, All-contains, All-nil}
use Rattle.std.proofs.lemmas.Simd.{map-map}
use Rattle.uc_run.specs.Heads.{next_number, number_of, lesser_of, IsFrom, IsAmong, IsLeast}
use Rattle.uc_run.specs.Prefixes.{AreBytes}
use Rattle.uc_run.proofs.LeastHead.{least_at}
use Rattle.uc_run.proofs.NumberOrder.{number_bound, lower_number}

-- ---- the least key

abbrev Key : Type 0
Key = Option (List ℕ)

abbrev HasBytes : Key → Type 0
HasBytes key = AreBytes (unwrap_or key [])

module _ (front : List ℕ) (low : ℕ) where
  -- a key, if it has the number
  abbrev pub numbered : Key → Key
  numbered key = cond (eqb (next_number front key) low) key None

  among_by : (k : List ℕ) (other : Key) (b : Bool) → cond b other None ≡ Some k → other ≡ Some k
  among_by k other true e = e
  among_by k other false e = absurd cc

  among : (k : List ℕ) (keys : List Key) → IsAmong k (map numbered keys) → IsAmong k keys
  among k [] h = h
  among k (other ∷ others) (inl e) = inl (among_by k other (eqb (next_number front other) low) e)
  among k (other ∷ others) (inr h) = inr (among k others h)

  number_is : (k : List ℕ) (keys : List Key) → IsAmong k (map numbered keys) → number_of front k ≡ low
  number_is k [] h = absurd h
  number_is k (other ∷ others) (inr h) = number_is k others h
  number_is k (other ∷ others) (inl e) = by (eqb (next_number front other) low) refl e
    where
      by : (b : Bool) → eqb (next_number front other) low ≡ b → cond b other None ≡ Some k → number_of front k ≡ low
      by true same e = let at : next_number front other ≡ low = grind (arith, nat_tests) in sym (ap (next_number front) e) ∙ at
      by false same e = absurd cc

  from_higher : (k : List ℕ) (other : Key) → number_of front k < next_number front other → HasBytes other → IsFrom k other
  from_higher k None lt bytes = tt
  from_higher k (Some other) lt bytes = lower_number front k other bytes lt

  from_by : (k : List ℕ) (other : Key) (b : Bool) → eqb (next_number front other) low ≡ b → number_of front k ≡ low → low ≤ next_number front other → HasBytes other → IsFrom k (cond b other None) → IsFrom k other
  from_by k other true e at le bytes h = h
  from_by k other false e at le bytes h = let lt : low < next_number front other = grind (arith, nat_tests) in from_higher k other (omega (arith, lt, at)) bytes

  from_all : (k : List ℕ) (keys : List Key) → number_of front k ≡ low → All (λ n. low ≤ n) (map (next_number front) keys) → All HasBytes keys → AllByRecursion (IsFrom k) (map numbered keys) → AllByRecursion (IsFrom k) keys
  from_all k [] at lower bytes h = tt
  from_all k (other ∷ others) at lower bytes h = (
    from_by k other (eqb (next_number front other) low) refl at (All-head (λ n. low ≤ n) (next_number front other) (map (next_number front) others) lower) (All-head HasBytes other others bytes) h.0,
    from_all k others at (All-tail (λ n. low ≤ n) (next_number front other) (map (next_number front) others) lower) (All-tail HasBytes other others bytes) h.1,
  )

  -- a key with the number of none is none
  none_by : (key : Key) (b : Bool) → eqb (next_number front key) low ≡ b → cond b key None ≡ None → next_number front key ≡ low → low ≡ 2 ^ 64 - 1
  none_by key true e none at = sym at ∙ ap (next_number front) none
  none_by key false e none at = absurd (grind (arith, nat_tests))

  only_greatest : (keys : List Key) → AllByRecursion (λ key. key ≡ None) (map numbered keys) → All (λ n. n ≡ low → low ≡ 2 ^ 64 - 1) (map (next_number front) keys)
  only_greatest [] h = All-nil (λ n. n ≡ low → low ≡ 2 ^ 64 - 1)
  only_greatest (key ∷ keys) h =
      All-cons (λ n. n ≡ low → low ≡ 2 ^ 64 - 1) (next_number front key) (map (next_number front) keys) (none_by key (eqb (next_number front key) low) refl h.0) (only_greatest keys h.1)

  next_bound : (key : Key) → HasBytes key → next_number front key ≤ 2 ^ 64 - 1
  next_bound None bytes = omega arith
  next_bound (Some key) bytes = number_bound front key bytes

  none_at : (key : Key) (b : Bool) → eqb (next_number front key) low ≡ b → 2 ^ 64 - 1 ≤ low → low ≤ next_number front key → HasBytes key → cond b key None ≡ None → key ≡ None
  none_at key true e high le bytes h = h
  none_at key false e high le bytes h =
      let bound : next_number front key ≤ 2 ^ 64 - 1 = next_bound key bytes in
      let same : next_number front key ≡ low = omega (arith, high, le, bound) in
      absurd (grind (arith, nat_tests))

  none_all : (keys : List Key) → 2 ^ 64 - 1 ≤ low → All (λ n. low ≤ n) (map (next_number front) keys) → All HasBytes keys → AllByRecursion (λ key. key ≡ None) (map numbered keys) → AllByRecursion (λ key. key ≡ None) keys
  none_all [] high lower bytes h = tt
  none_all (key ∷ keys) high lower bytes h = (
    none_at key (eqb (next_number front key) low) refl high (All-head (λ n. low ≤ n) (next_number front key) (map (next_number front) keys) lower) (All-head HasBytes key keys bytes) h.0,
    none_all keys high (All-tail (λ n. low ≤ n) (next_number front key) (map (next_number front) keys) lower) (All-tail HasBytes key keys bytes) h.1,
  )

  pub least_numbered : (keys : List Key) (least : Key) → All (λ n. low ≤ n) (map (next_number front) keys) → (low < 2 ^ 64 - 1 → Contains (map (next_number front) keys) low) → All HasBytes keys → IsLeast (map numbered keys) least → IsLeast keys least
  least_numbered keys None lower there bytes h = by (ltb low (2 ^ 64 - 1)) refl
    where
      by : (b : Bool) → ltb low (2 ^ 64 - 1) ≡ b → AllByRecursion (λ key. key ≡ None) keys
      by true e =
          let lt : low < 2 ^ 64 - 1 = grind (arith, nat_tests) in
          let at : low ≡ 2 ^ 64 - 1 = All-contains (λ n. n ≡ low → low ≡ 2 ^ 64 - 1) (map (next_number front) keys) low (only_greatest keys h) (there lt) refl in
          absurd (omega (arith, lt, at))
      by false e = let high : 2 ^ 64 - 1 ≤ low = grind (arith, nat_tests) in none_all keys high lower bytes h
  least_numbered keys (Some k) lower there bytes h = (from_all k keys (number_is k keys h.1) lower bytes h.0, among k keys h.1)

-- ---- one key more at a time

lesser_none : (least : Key) → least ≡ lesser_of least None
lesser_none None = refl
lesser_none (Some key) = refl

module _ {X : Type 0} (f : X → Key) (front : List ℕ) (low : ℕ) (xs : List X) (ns : List ℕ) (each : ns ≡ map (next_number front) (map f xs)) where
  number_at : (i : ℕ) (d : X) → i < length xs → get_or ns i 0 ≡ next_number front (f (get_or xs i d))
  number_at i d lt =
      ap (λ (ms : List ℕ). get_or ms i 0) each
      ∙ get_or-map (next_number front) (map f xs) i (f d) 0 (subst (λ (n : ℕ). i < n) (sym (length-map xs f)) lt)
      ∙ ap (next_number front) (get_or-map f xs i d (f d) lt)

  made_by : (i : ℕ) (d : X) (least next : Key) (b : Bool) → eqb (next_number front (f (get_or xs i d))) low ≡ b → next ≡ cond b (lesser_of least (f (get_or xs i d))) least → next ≡ lesser_of least (cond b (f (get_or xs i d)) None)
  made_by i d least next true e made = made
  made_by i d least next false e made = made ∙ lesser_none least

  more : (i : ℕ) (d : X) (least next : Key) (b : Bool) → i < length xs → eqb (get_or ns i 0) low ≡ b → next ≡ cond b (lesser_of least (f (get_or xs i d))) least → IsLeast (map (λ x. numbered front low (f x)) (take i xs)) least → IsLeast (map (λ x. numbered front low (f x)) (take (i + 1) xs)) next
  more i d least next b lt e made h =
      let test : eqb (next_number front (f (get_or xs i d))) low ≡ b = ap (λ n. eqb n low) (sym (number_at i d lt)) ∙ e in
      least_at (λ x. numbered front low (f x)) xs i d least next lt h (made_by i d least next b test made ∙ ap (λ t. lesser_of least (cond t (f (get_or xs i d)) None)) (sym test))

  -- one with the least number
  pub lesser_more : (i : ℕ) (d : X) (least next : Key) → i < length xs → get_or ns i 0 ≡ low → next ≡ lesser_of least (f (get_or xs i d)) → IsLeast (map (λ x. numbered front low (f x)) (take i xs)) least → IsLeast (map (λ x. numbered front low (f x)) (take (i + 1) xs)) next
  lesser_more i d least next lt e made h = more i d least next true lt (grind (arith, nat_tests)) made h

  -- one with another number
  pub other_more : (i : ℕ) (d : X) (least next : Key) → i < length xs → (get_or ns i 0 ≡ low → ⊥) → next ≡ least → IsLeast (map (λ x. numbered front low (f x)) (take i xs)) least → IsLeast (map (λ x. numbered front low (f x)) (take (i + 1) xs)) next
  other_more i d least next lt e made h = more i d least next false lt (grind (arith, nat_tests)) made h

  -- those up to a place that have another number
  others_more : (i n : ℕ) (d : X) (least : Key) → i + n ≤ length xs → AllWithin (λ m. m ≡ low → ⊥) ns i (i + n) → IsLeast (map (λ x. numbered front low (f x)) (take i xs)) least → IsLeast (map (λ x. numbered front low (f x)) (take (i + n) xs)) least
  others_more i zero d least le others h = subst (λ (k : ℕ). IsLeast (map (λ x. numbered front low (f x)) (take k xs)) least) (omega arith) h
  others_more i (suc n) d least le others h =
      let same : (i + 1) + n ≡ i + suc n = omega arith in
      subst (λ (k : ℕ). IsLeast (map (λ x. numbered front low (f x)) (take k xs)) least) same
      (others_more (i + 1) n d least (omega (arith, le)) (λ k e from lt. others k e (omega (arith, from)) (omega (arith, lt)))
      (other_more i d least least (omega (arith, le)) (others i 0 (omega arith) (omega arith)) refl h))

  pub others_to : (i j : ℕ) (d : X) (least : Key) → i ≤ j → j ≤ length xs → AllWithin (λ m. m ≡ low → ⊥) ns i j → IsLeast (map (λ x. numbered front low (f x)) (take i xs)) least → IsLeast (map (λ x. numbered front low (f x)) (take j xs)) least
  others_to i j d least le within others h =
      let whole : i + (j - i) ≡ j = omega (arith, le) in
      subst (λ (k : ℕ). IsLeast (map (λ x. numbered front low (f x)) (take k xs)) least) whole
      (others_more i (j - i) d least (omega (arith, whole, within)) (subst (AllWithin (λ m. m ≡ low → ⊥) ns i) (sym whole) others) h)

  pub as_long : length ns ≡ length xs
  as_long = ap length each ∙ length-map (map f xs) (next_number front) ∙ length-map xs f

  -- at the end
  pub least_of_all : (i : ℕ) (least : Key) → length xs ≤ i → All (λ n. low ≤ n) ns → (low < 2 ^ 64 - 1 → Contains ns low) → All (λ key. AreBytes (unwrap_or key [])) (map f xs) → IsLeast (map (λ x. numbered front low (f x)) (take i xs)) least → IsLeast (map f xs) least
  least_of_all i least end lower there bytes h =
      let all : take i xs ≡ xs = take_all i xs end in
      least_numbered front low (map f xs) least (subst (All (λ n. low ≤ n)) each lower) (λ below. subst (λ (ms : List ℕ). Contains ms low) each (there below)) bytes
      (subst (λ (keys : List Key). IsLeast keys least) (ap (map (λ x. numbered front low (f x))) all ∙ sym (map-map (numbered front low) f xs)) h)

  pub number_of_least : (i : ℕ) (least : Key) → length xs ≤ i → IsLeast (map (λ x. numbered front low (f x)) (take i xs)) least → IfSome least (λ k. number_of front k ≡ low)
  number_of_least i None end h = tt
  number_of_least i (Some k) end h =
      let all : take i xs ≡ xs = take_all i xs end in
      number_is front low k (map f xs)
      (subst (λ (keys : List Key). IsLeast keys (Some k)) (ap (map (λ x. numbered front low (f x))) all ∙ sym (map-map (numbered front low) f xs)) h).1

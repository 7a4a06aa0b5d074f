-- A list in the order of numbers, whose ties are sorted one after the other.
use Rattle.std.proofs.Common.{◌≡◌, ◌⊎◌, inl, inr, ℕ, ◌+◌, ◌-◌, ◌<◌, ◌≤◌, Bool, false, List, ◌++◌, length, get_or, take, drop, refl, sym, ap, ◌∙◌, subst, arith}
use Rattle.std.specs.Prelude.{◌≢◌}
use Rattle.std.specs.List.{All}
use Rattle.std.specs.List.Sorted.{IsPermutation, IsSortedBy, IsSortedWithin}
use Rattle.std.proofs.lemmas.Bool.{cases_lt}
use Rattle.std.proofs.lemmas.List.{length-take-le, length-drop, get_or_append_left, get_or-append_right, get_or-take, get_or-drop, get_or_default}
use Rattle.std.proofs.lemmas.List.Sorted.{IsPermutation-refl, IsPermutation-put_mid, IsPermutation-trans, length_permutation, All-permutation}
use borrow.Rule.Slice.PartMut.{put_mid, mid_of}

-- ---- elements of a list of which a part was written

module _ (a n : ℕ) (xs zs : List ℕ) (within : a + n ≤ length xs) (long : length zs ≡ n) where
  abbrev ys : List ℕ
  ys = put_mid a n xs zs

  front : length (take a xs) ≡ a
  front = length-take-le a xs (omega (arith, within))

  get_before : (k d : ℕ) → k < a → get_or ys k d ≡ get_or xs k d
  get_before k d lt = get_or_append_left (take a xs) (zs ++ drop n (drop a xs)) d k (omega (arith, front, lt)) ∙ get_or-take a xs k d lt

  get_inside : (k d : ℕ) → a ≤ k → k < a + n → get_or ys k d ≡ get_or zs (k - a) d
  get_inside k d le lt =
      get_or-append_right (take a xs) (zs ++ drop n (drop a xs)) a k d front le
      ∙ get_or_append_left zs (drop n (drop a xs)) d (k - a) (omega (arith, long, le, lt))

  get_behind : (k d : ℕ) → a + n ≤ k → get_or ys k d ≡ get_or xs k d
  get_behind k d le =
      get_or-append_right (take a xs) (zs ++ drop n (drop a xs)) a k d front (omega (arith, le))
      ∙ get_or-append_right zs (drop n (drop a xs)) n (k - a) d long (omega (arith, le))
      ∙ get_or-drop n (drop a xs) (k - a - n) d
      ∙ get_or-drop a xs (n + (k - a - n)) d
      ∙ ap (λ m. get_or xs m d) (omega (arith, le))

-- ---- ties are sorted

module _ (lt : ℕ → ℕ → Bool) (high : ℕ → ℕ) (by_high : (r s : ℕ) → high r < high s → lt s r ≡ false) where
  -- all before a place is sorted, and what stands there isn't tied with what is before it
  pub record Upto (old xs : List ℕ) (start : ℕ) : Type 0 where
    pub moved : IsPermutation old xs
    pub long : length xs ≡ length old
    pub highs : (k : ℕ) → k < length xs → high (get_or xs k 0) ≡ high (get_or old k 0)
    pub within : start ≤ length xs
    pub sorted : IsSortedWithin lt xs 0 start
    pub apart : 0 < start → start < length xs → high (get_or xs (start - 1) 0) ≢ high (get_or xs start 0)

  pub none_yet : (old : List ℕ) → Upto old old 0
  none_yet old = record {
    moved = IsPermutation-refl old;
    long = refl;
    highs = λ k l. refl;
    within = omega arith;
    sorted = λ k d le l. absurd (omega (arith, l));
    apart = λ some l. absurd (omega (arith, some));
  }

  pub all_sorted : (old xs : List ℕ) (start : ℕ) → length xs ≤ start → Upto old xs start → IsSortedBy lt xs
  all_sorted old xs start end upto k d le l = upto.sorted k d le (omega (arith, l, end))

  module _ (old xs zs : List ℕ) (a n : ℕ) (rising : (i j : ℕ) → i ≤ j → j < length old → high (get_or old i 0) ≤ high (get_or old j 0)) (upto : Upto old xs a) (some : 0 < n) (within : a + n ≤ length xs) (same : (k : ℕ) → k < n → high (get_or (drop a xs) k 0) ≡ high (get_or (drop a xs) 0 0)) (next : n < length (drop a xs) → high (get_or (drop a xs) n 0) ≢ high (get_or (drop a xs) 0 0)) (put : IsPermutation (mid_of a n xs) zs) (in_order : IsSortedBy lt zs) where
    abbrev h : ℕ
    h = high (get_or (drop a xs) 0 0)

    abbrev now : List ℕ
    now = put_mid a n xs zs

    rest_long : length (drop a xs) ≡ length xs - a
    rest_long = length-drop a xs

    mid_long : length (take n (drop a xs)) ≡ n
    mid_long = length-take-le n (drop a xs) (omega (arith, rest_long, within))

    zs_long : length zs ≡ n
    zs_long = length_permutation (mid_of a n xs) zs put ∙ mid_long

    now_moved : IsPermutation xs now
    now_moved = IsPermutation-put_mid a n xs zs put

    now_long : length now ≡ length xs
    now_long = length_permutation xs now now_moved

    all_mid : All (λ r. high r ≡ h) (take n (drop a xs))
    all_mid k d l =
        let lt : k < n = omega (arith, l, mid_long) in
        ap high (get_or-take n (drop a xs) k d lt ∙ get_or_default (drop a xs) k d 0 (omega (arith, lt, rest_long, within))) ∙ same k lt

    all_zs : All (λ r. high r ≡ h) zs
    all_zs = All-permutation (λ r. high r ≡ h) (mid_of a n xs) zs put all_mid

    high_there : (k : ℕ) → a ≤ k → k < a + n → high (get_or xs k 0) ≡ h
    high_there k le lt =
        ap high (ap (λ m. get_or xs m 0) (omega (arith, le)) ∙ sym (get_or-drop a xs (k - a) 0)) ∙ same (k - a) (omega (arith, le, lt))

    high_inside : (k : ℕ) → a ≤ k → k < a + n → high (get_or now k 0) ≡ h
    high_inside k le lt = ap high (get_inside a n xs zs within zs_long k 0 le lt) ∙ all_zs (k - a) 0 (omega (arith, zs_long, le, lt))

    kept : (k : ℕ) → (k < a) ⊎ (a ≤ k) → (k < a + n) ⊎ (a + n ≤ k) → high (get_or now k 0) ≡ high (get_or xs k 0)
    kept k (inl lt) other = ap high (get_before a n xs zs within zs_long k 0 lt)
    kept k (inr le) (inl lt) = high_inside k le lt ∙ sym (high_there k le lt)
    kept k (inr le) (inr behind) = ap high (get_behind a n xs zs within zs_long k 0 behind)

    now_highs : (k : ℕ) → k < length now → high (get_or now k 0) ≡ high (get_or old k 0)
    now_highs k l = kept k (cases_lt k a) (cases_lt k (a + n)) ∙ upto.highs k (omega (arith, l, now_long))

    -- at the place where the part begins
    at_start : (k d : ℕ) → k + 1 ≡ a → lt (get_or now (k + 1) d) (get_or now k d) ≡ false
    at_start k d e =
        let l : k + 1 < length now = omega (arith, e, some, within, now_long) in
        let before : high (get_or now k 0) ≡ high (get_or old k 0) = now_highs k (omega (arith, l)) in
        let there : high (get_or now (k + 1) 0) ≡ high (get_or old (k + 1) 0) = now_highs (k + 1) l in
        let up : high (get_or old k 0) ≤ high (get_or old (k + 1) 0) = rising k (k + 1) (omega arith) (omega (arith, l, now_long, upto.long)) in
        let other : high (get_or xs k 0) ≢ high (get_or xs (k + 1) 0) = λ tie. upto.apart (omega (arith, e)) (omega (arith, e, l, now_long)) (ap (λ m. high (get_or xs m 0)) (omega (arith, e)) ∙ tie ∙ ap (λ m. high (get_or xs m 0)) e) in
        let not_tied : high (get_or old k 0) ≢ high (get_or old (k + 1) 0) = λ tie. other (upto.highs k (omega (arith, l, now_long)) ∙ tie ∙ sym (upto.highs (k + 1) (omega (arith, l, now_long)))) in
        let lower : high (get_or now k 0) < high (get_or now (k + 1) 0) = omega (arith, before, there, up, not_tied) in
        ap (λ r. lt r (get_or now k d)) (get_or_default now (k + 1) d 0 l)
        ∙ ap (λ r. lt (get_or now (k + 1) 0) r) (get_or_default now k d 0 (omega (arith, l)))
        ∙ by_high (get_or now k 0) (get_or now (k + 1) 0) lower

    step_sorted : (k d : ℕ) → k + 1 < a + n → (k + 1 < a) ⊎ (a ≤ k + 1) → (k < a) ⊎ (a ≤ k) → lt (get_or now (k + 1) d) (get_or now k d) ≡ false
    step_sorted k d l (inl before) other =
        ap (λ r. lt r (get_or now k d)) (get_before a n xs zs within zs_long (k + 1) d before)
        ∙ ap (λ r. lt (get_or xs (k + 1) d) r) (get_before a n xs zs within zs_long k d (omega (arith, before)))
        ∙ upto.sorted k d (omega arith) before
    step_sorted k d l (inr le) (inl before) = at_start k d (omega (arith, le, before))
    step_sorted k d l (inr le) (inr inside) =
        ap (λ r. lt r (get_or now k d)) (get_inside a n xs zs within zs_long (k + 1) d le l ∙ ap (λ m. get_or zs m d) (omega (arith, inside)))
        ∙ ap (λ r. lt (get_or zs (k - a + 1) d) r) (get_inside a n xs zs within zs_long k d inside (omega (arith, l)))
        ∙ in_order (k - a) d (omega arith) (omega (arith, l, inside, zs_long))

    now_apart : a + n < length now → high (get_or now (a + n - 1) 0) ≢ high (get_or now (a + n) 0)
    now_apart l tie =
        let last : high (get_or now (a + n - 1) 0) ≡ h = high_inside (a + n - 1) (omega (arith, some)) (omega (arith, some)) in
        let behind : high (get_or now (a + n) 0) ≡ high (get_or (drop a xs) n 0) = ap high (get_behind a n xs zs within zs_long (a + n) 0 (omega arith) ∙ sym (get_or-drop a xs n 0)) in
        next (omega (arith, l, now_long, rest_long)) (sym behind ∙ sym tie ∙ last)

    pub upto_more : Upto old now (a + n)
    upto_more = record {
      moved = IsPermutation-trans old xs now upto.moved now_moved;
      long = now_long ∙ upto.long;
      highs = now_highs;
      within = omega (arith, within, now_long);
      sorted = λ k d le l. step_sorted k d l (cases_lt (k + 1) a) (cases_lt k a);
      apart = λ any l. now_apart l;
    }

  -- the same as a loop has it: of m and the rest it is known what they are
  pub upto_next : (old xs zs rest : List ℕ) (a n m : ℕ) → m ≡ n → rest ≡ drop a xs → ((i j : ℕ) → i ≤ j → j < length old → high (get_or old i 0) ≤ high (get_or old j 0)) → Upto old xs a → 0 < n → a + n ≤ length xs → ((k : ℕ) → k < n → high (get_or rest k 0) ≡ high (get_or rest 0 0)) → (n < length rest → high (get_or rest n 0) ≢ high (get_or rest 0 0)) → IsPermutation (mid_of a m xs) zs → IsSortedBy lt zs → Upto old (put_mid a m xs zs) (a + n)
  upto_next old xs zs rest a n m m_is rest_is rising upto some within same next put in_order =
      subst (λ (o : ℕ). Upto old (put_mid a o xs zs) (a + n)) (sym m_is)
      (upto_more old xs zs a n rising upto some within
      (subst (λ (ys : List ℕ). (k : ℕ) → k < n → high (get_or ys k 0) ≡ high (get_or ys 0 0)) rest_is same)
      (subst (λ (ys : List ℕ). n < length ys → high (get_or ys n 0) ≢ high (get_or ys 0 0)) rest_is next)
      (subst (λ (o : ℕ). IsPermutation (mid_of a o xs) zs) m_is put) in_order)

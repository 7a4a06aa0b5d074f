-- Numbers in blocks.
use Rattle.std.proofs.Common.{◌≡◌, ◌≢◌, ℕ, ◌+◌, ◌-◌, ◌*◌, ◌/◌, ◌^◌, ◌<◌, ◌≤◌, Bool, true, false, eqb, ltb, List, [], ◌∷◌, ◌++◌, length, get_or, set, take, drop, min, refl, sym, ap, ◌∙◌, subst, arith}
use Rattle.std.specs.List.{All, AllWithin, Contains}
use Rattle.std.proofs.lemmas.Bool.Decides.{nat_tests}
use Rattle.std.proofs.lemmas.List.{length-take, length-drop, length-set, length-append, get_or-set_other, get_or-set_same, get_or_append_left, get_or_at, get_or-take, get_or-drop, take_all, take_rest, take_more, drop-set-lt, take-set-le, drop-set-add}
use Rattle.std.proofs.lemmas.List.Elements.{All-more, All-weaker, Contains-append_left, Contains-push}
use Rattle.uc_run.specs.NumberBlocks.{AreLeasts, IsLeastNumber, numbers_in}

-- ---- the least of some numbers, one number more at a time

module _ (ns : List ℕ) (i least next : ℕ) (lt : i < length ns) (is : next ≡ min least (get_or ns i 0)) where
  lower_more : All (λ n. least ≤ n) (take i ns) → All (λ n. next ≤ n) (take (i + 1) ns)
  lower_more lower =
      All-more (λ n. next ≤ n) ns i 0 lt (All-weaker (λ n. least ≤ n) (λ n. next ≤ n) (λ n le. omega (arith, le, is)) (take i ns) lower) (omega (arith, is))

  there_more : (least < 2 ^ 64 - 1 → Contains (take i ns) least) → next < 2 ^ 64 - 1 → Contains (take (i + 1) ns) next
  there_more there below = subst (λ (ms : List ℕ). Contains ms next) (sym (take_more ns i 0 lt)) (by (ltb (get_or ns i 0) least) refl)
    where
      by : (b : Bool) → ltb (get_or ns i 0) least ≡ b → Contains (take i ns ++ get_or ns i 0 ∷ []) next
      by true e =
          let less : get_or ns i 0 < least = grind (arith, nat_tests) in
          let new : get_or ns i 0 ≡ next = omega (arith, less, is) in
          subst (λ (n : ℕ). Contains (take i ns ++ get_or ns i 0 ∷ []) n) new (Contains-push (take i ns) (get_or ns i 0))
      by false e =
          let le : least ≤ get_or ns i 0 = grind (arith, nat_tests) in
          let old : least ≡ next = omega (arith, le, is) in
          subst (λ (n : ℕ). Contains (take i ns ++ get_or ns i 0 ∷ []) n) old (Contains-append_left (take i ns) (get_or ns i 0 ∷ []) least (there (omega (arith, old, below))))

  pub least_more : IsLeastNumber (take i ns) least → IsLeastNumber (take (i + 1) ns) next
  least_more h = record { lower = lower_more h.lower; there = there_more h.there }

-- ---- the numbers of a block

pub in_block : (ns : List ℕ) (block r d : ℕ) → r < 16 → get_or (numbers_in ns block) r d ≡ get_or ns (16 * block + r) d
in_block ns block r d lt = get_or-take 16 (drop (16 * block) ns) r d lt ∙ get_or-drop (16 * block) ns r d

length_in : (ns : List ℕ) (block : ℕ) → length (numbers_in ns block) ≡ min 16 (length ns - 16 * block)
length_in ns block = length-take 16 (drop (16 * block) ns) ∙ ap (min 16) (length-drop (16 * block) ns)

pub block_is : (ns : List ℕ) (block end : ℕ) → end ≡ min (length ns) (16 * block + 16) → take (end - 16 * block) (drop (16 * block) ns) ≡ numbers_in ns block
block_is ns block end is = by (ltb (length ns) (16 * block + 16)) refl
  where
    by : (b : Bool) → ltb (length ns) (16 * block + 16) ≡ b → take (end - 16 * block) (drop (16 * block) ns) ≡ take 16 (drop (16 * block) ns)
    by true e =
        let less : length ns < 16 * block + 16 = grind (arith, nat_tests) in
        let long : length (drop (16 * block) ns) ≤ 16 = omega (arith, length-drop (16 * block) ns, less) in
        let at : end - 16 * block ≡ length ns - 16 * block = omega (arith, is, less) in
        ap (λ (n : ℕ). take n (drop (16 * block) ns)) at ∙ take_rest ns (16 * block) ∙ sym (take_all 16 (drop (16 * block) ns) long)
    by false e =
        let le : 16 * block + 16 ≤ length ns = grind (arith, nat_tests) in
        let at : end - 16 * block ≡ 16 = omega (arith, is, le) in
        ap (λ (n : ℕ). take n (drop (16 * block) ns)) at

-- ---- the least numbers of blocks

module _ (ns leasts : List ℕ) (held : AreLeasts ns leasts) where
  pub has_block : (i : ℕ) → i < length ns → i / 16 < length leasts
  has_block i lt = omega (arith, lt, held.each)

  pub lower_at : (i d e : ℕ) → i < length ns → get_or leasts (i / 16) d ≤ get_or ns i e
  lower_at i d e lt =
      let block = i / 16 in
      let r = i - 16 * (i / 16) in
      let within : i - 16 * (i / 16) < 16 = omega arith in
      let whole : 16 * (i / 16) + (i - 16 * (i / 16)) ≡ i = omega arith in
      let inside : i - 16 * (i / 16) < length (numbers_in ns (i / 16)) = omega (arith, length_in ns (i / 16), lt, within, whole) in
      let le : get_or leasts (i / 16) d ≤ get_or (numbers_in ns (i / 16)) (i - 16 * (i / 16)) e = (held.least (i / 16) d (has_block i lt)).lower (i - 16 * (i / 16)) e inside in
      subst (λ (n : ℕ). get_or leasts (i / 16) d ≤ n) (in_block ns (i / 16) (i - 16 * (i / 16)) e within ∙ ap (λ (n : ℕ). get_or ns n e) whole) le

  there_in : (low block : ℕ) → Contains (numbers_in ns block) low → Contains ns low
  there_in low block h =
      let long = length_in ns block in
      let small : h.0 < 16 = omega (arith, h.1, long) in
      (16 * block + h.0, omega (arith, h.1, long), sym (in_block ns block h.0 low small) ∙ h.2)

  -- the least of the blocks' least numbers is that of all
  pub least_of_leasts : (low : ℕ) → IsLeastNumber leasts low → IsLeastNumber ns low
  least_of_leasts low h = record {
    lower = λ k d lt.
        let le : low ≤ get_or leasts (k / 16) 0 = h.lower (k / 16) 0 (has_block k lt) in
        omega (arith, le, lower_at k 0 d lt);
    there = λ below.
        let at = h.there below in
        there_in low at.0 (subst (λ (n : ℕ). Contains (numbers_in ns at.0) n) at.2 ((held.least at.0 low at.1).there (omega (arith, at.2, below))));
  }

  -- no number of a block is below its least
  pub none_below : (number i low end : ℕ) → low ≡ get_or leasts (i / 16) low → number < low → end ≡ min (length ns) (16 * (i / 16) + 16) → AllWithin (λ other. other ≡ number → ⊥) ns i end
  none_below number i low end is below ends k d le lt same =
      let inside : k < length ns = omega (arith, ends, lt) in
      let block : k / 16 ≡ i / 16 = omega (arith, le, lt, ends) in
      let least : get_or leasts (k / 16) low ≤ get_or ns k d = lower_at k low d inside in
      let there : low ≡ get_or leasts (k / 16) low = is ∙ ap (λ (n : ℕ). get_or leasts n low) (sym block) in
      absurd (omega (arith, least, there, below, same))

-- what holds up to a place and from it on
pub all_joined : {X : Type 0} (P : X → Type 0) (xs : List X) (from i end : ℕ) → AllWithin P xs from i → AllWithin P xs i end → AllWithin P xs from end
all_joined P xs from i end before behind k d le lt = by (ltb k i) refl
  where
    by : (b : Bool) → ltb k i ≡ b → P (get_or xs k d)
    by true e = before k d le (grind (arith, nat_tests))
    by false e = behind k d (grind (arith, nat_tests)) lt

-- ---- a number is put in place of another

module _ (ns : List ℕ) (i number : ℕ) where
  other_block : (block : ℕ) → (block ≡ i / 16 → ⊥) → numbers_in (set ns i number) block ≡ numbers_in ns block
  other_block block other = by (ltb i (16 * block)) refl
    where
      by : (b : Bool) → ltb i (16 * block) ≡ b → numbers_in (set ns i number) block ≡ numbers_in ns block
      by true e = let before : i < 16 * block = grind (arith, nat_tests) in ap (take 16) (drop-set-lt (16 * block) ns i number before)
      by false e =
          let from : 16 * block ≤ i = grind (arith, nat_tests) in
          let whole : i ≡ 16 * block + (i - 16 * block) = omega (arith, from) in
          let behind : 16 ≤ i - 16 * block = omega (arith, from, other_lt from) in
          ap (λ (n : ℕ). take 16 (drop (16 * block) (set ns n number))) whole
          ∙ ap (take 16) (drop-set-add (16 * block) ns (i - 16 * block) number)
          ∙ take-set-le 16 (drop (16 * block) ns) (i - 16 * block) number behind
        where
          other_lt : 16 * block ≤ i → 16 * block + 16 ≤ i
          other_lt le = at_least (ltb i (16 * block + 16)) refl
            where
              at_least : (c : Bool) → ltb i (16 * block + 16) ≡ c → 16 * block + 16 ≤ i
              at_least true f =
                  let less : i < 16 * block + 16 = grind (arith, nat_tests) in
                  absurd (other (omega (arith, le, less)))
              at_least false f = grind (arith, nat_tests)

module _ (ns leasts : List ℕ) (held : AreLeasts ns leasts) (i number least : ℕ) (lt : i < length ns) (new : IsLeastNumber (numbers_in (set ns i number) (i / 16)) least) where
  least_set : (block d : ℕ) → block < length leasts → (b : Bool) → eqb block (i / 16) ≡ b → IsLeastNumber (numbers_in (set ns i number) block) (get_or (set leasts (i / 16) least) block d)
  least_set block d within true e =
      let same : i / 16 ≡ block = grind (arith, nat_tests) in
      let here : get_or (set leasts (i / 16) least) (i / 16) d ≡ least = get_or-set_same leasts (i / 16) least d (has_block ns leasts held i lt) in
      subst (λ (n : ℕ). IsLeastNumber (numbers_in (set ns i number) n) (get_or (set leasts (i / 16) least) n d)) same
      (subst (IsLeastNumber (numbers_in (set ns i number) (i / 16))) (sym here) new)
  least_set block d within false e =
      let other : block ≢ i / 16 = λ same. grind (arith, nat_tests) in
      subst (IsLeastNumber (numbers_in (set ns i number) block)) (sym (get_or-set_other leasts (i / 16) block least d other))
      (subst (λ (ms : List ℕ). IsLeastNumber ms (get_or leasts block d)) (sym (other_block ns i number block other)) (held.least block d within))

  pub leasts_set : AreLeasts (set ns i number) (set leasts (i / 16) least)
  leasts_set = record {
    each = length-set leasts (i / 16) least ∙ held.each ∙ ap (λ (n : ℕ). (n + 15) / 16) (sym (length-set ns i number));
    least = λ block d within. least_set block d (subst (λ (n : ℕ). block < n) (length-set leasts (i / 16) least) within) (eqb block (i / 16)) refl;
  }

-- one block more
pub leasts_more : (ns leasts : List ℕ) (least : ℕ) → ((block d : ℕ) → block < length leasts → IsLeastNumber (numbers_in ns block) (get_or leasts block d)) → IsLeastNumber (numbers_in ns (length leasts)) least → (block d : ℕ) → block < length (leasts ++ least ∷ []) → IsLeastNumber (numbers_in ns block) (get_or (leasts ++ least ∷ []) block d)
leasts_more ns leasts least held new block d within = by (ltb block (length leasts)) refl
  where
    by : (b : Bool) → ltb block (length leasts) ≡ b → IsLeastNumber (numbers_in ns block) (get_or (leasts ++ least ∷ []) block d)
    by true e =
        let lt : block < length leasts = grind (arith, nat_tests) in
        subst (IsLeastNumber (numbers_in ns block)) (sym (get_or_append_left leasts (least ∷ []) d block lt)) (held block d lt)
    by false e =
        let ge : length leasts ≤ block = grind (arith, nat_tests) in
        let last : length leasts ≡ block = omega (arith, ge, within, length-append leasts (least ∷ [])) in
        subst (λ (n : ℕ). IsLeastNumber (numbers_in ns n) (get_or (leasts ++ least ∷ []) n d)) last
        (subst (IsLeastNumber (numbers_in ns (length leasts))) (sym (get_or_at leasts least [] d (length leasts) refl)) new)

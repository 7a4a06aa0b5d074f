-- Stripes have no sequence in common, so of what is made for each of them a stripe has what was made for it.
use Rattle.std.proofs.Common.{◌≡◌, ℕ, ◌<◌, ◌≤◌, Bool, true, false, cond, leb, ltb, List, [], ◌∷◌, ◌++◌, length, filter, refl, ap, ◌∙◌, arith}
use Rattle.std.specs.Prelude.{◌&&◌, ◌-◌, ◌^◌, Option, Some, None, filter_map}
use Rattle.std.specs.List.{AllByRecursion, cons_option}
use Rattle.std.specs.List.Sorted.{IsStrictlySortedBy}
use Rattle.std.specs.declared.cmp.Ordering.TheVariants.{Less}
use Rattle.std.specs.Ordering.{nat_cmp}
use Rattle.std.proofs.lemmas.Bool.Decides.{nat_tests}
use Rattle.std.proofs.lemmas.List.{append-nil}
use Rattle.std.proofs.lemmas.List.Elements.{filter-append}
use Rattle.uc_compact.specs.Stripes.{Stripe, is_in, stripes_above, stripes}
use Rattle.uc_compact.proofs.NestedLists.{all-append, all-map}

-- each stripe is above those after it
abbrev pub StripesFall : List Stripe → Type 0
StripesFall [] = Unit {0}
StripesFall (s ∷ ss) = AllByRecursion (λ t. t.upto ≤ s.above) ss × StripesFall ss

fall-append_one : (ss : List Stripe) (t : Stripe) → StripesFall ss → AllByRecursion (λ s. t.upto ≤ s.above) ss → StripesFall (ss ++ t ∷ [])
fall-append_one [] t h above = (tt, tt)
fall-append_one (s ∷ ss) t h above = (all-append (λ u. u.upto ≤ s.above) ss (t ∷ []) h.0 (above.0, tt), fall-append_one ss t h.1 above.1)

abbrev pub Rise : List ℕ → Type 0
Rise keeps = IsStrictlySortedBy nat_cmp keeps

less_number : (a b : ℕ) → nat_cmp a b ≡ Less → a ≤ b
less_number a b e = grind (arith, nat_tests)

pub later_keeps : (keep : ℕ) (keeps : List ℕ) → Rise (keep ∷ keeps) → AllByRecursion (λ k. keep ≤ k) keeps
unfolding IsStrictlySortedBy
later_keeps keep keeps h = all-map (λ k. nat_cmp keep k ≡ Less) (λ k. keep ≤ k) (λ k e. less_number keep k e) keeps h.0

pub rise_on : (keep : ℕ) (keeps : List ℕ) → Rise (keep ∷ keeps) → Rise keeps
unfolding IsStrictlySortedBy
rise_on keep keeps h = h.1

pub all_from : (above : ℕ) (keeps : List ℕ) → Rise keeps → AllByRecursion (λ k. above ≤ k) keeps → AllByRecursion (λ s. above ≤ s.above) (stripes_above above keeps)
all_from above [] rise le = (omega arith, tt)
all_from above (keep ∷ keeps) rise le =
    let up : above ≤ keep = le.0 in
    all-append (λ s. above ≤ s.above) (stripes_above keep keeps) ((record { above = above; upto = keep }) ∷ [])
    (all-map (λ s. keep ≤ s.above) (λ s. above ≤ s.above) (λ s le. omega (arith, up, le)) (stripes_above keep keeps) (all_from keep keeps (rise_on keep keeps rise) (later_keeps keep keeps rise)))
    (omega arith, tt)

stripes_fall_above : (above : ℕ) (keeps : List ℕ) → Rise keeps → StripesFall (stripes_above above keeps)
stripes_fall_above above [] rise = (tt, tt)
stripes_fall_above above (keep ∷ keeps) rise =
    fall-append_one (stripes_above keep keeps) (record { above = above; upto = keep }) (stripes_fall_above keep keeps (rise_on keep keeps rise))
    (all_from keep keeps (rise_on keep keeps rise) (later_keeps keep keeps rise))

pub stripes_fall : (keeps : List ℕ) → Rise keeps → StripesFall (stripes keeps)
stripes_fall keeps rise = stripes_fall_above 0 keeps rise

-- ---- what is made for each stripe

pub in_above : (s : Stripe) (n : ℕ) → is_in s n ≡ true → s.above < n
in_above s n e = by (ltb s.above n) (leb n s.upto) refl e
  where
    by : (a b : Bool) → ltb s.above n ≡ a → (a && b) ≡ true → s.above < n
    by true b e f = grind (arith, nat_tests)
    by false b e f = absurd cc

pub in_upto : (s : Stripe) (n : ℕ) → is_in s n ≡ true → n ≤ s.upto
in_upto s n e = by (ltb s.above n) (leb n s.upto) refl e
  where
    by : (a b : Bool) → leb n s.upto ≡ b → (a && b) ≡ true → n ≤ s.upto
    by true true e f = grind (arith, nat_tests)
    by true false e f = absurd cc
    by false b e f = absurd cc

not_in_lower : (s t : Stripe) (n : ℕ) → t.upto ≤ s.above → is_in s n ≡ true → is_in t n ≡ false
not_in_lower s t n le e = no (leb n t.upto) (ltb t.above n) refl
  where
    no : (b a : Bool) → leb n t.upto ≡ b → (a && b) ≡ false
    no true a f = let lt : s.above < n = in_above s n e in absurd (grind (arith, nat_tests))
    no false true f = refl
    no false false f = refl

not_in_upper : (s t : Stripe) (n : ℕ) → t.upto ≤ s.above → is_in t n ≡ true → is_in s n ≡ false
not_in_upper s t n le e = no (ltb s.above n) (leb n s.upto) refl
  where
    no : (a b : Bool) → ltb s.above n ≡ a → (a && b) ≡ false
    no true b f = let below : n ≤ t.upto = in_upto t n e in absurd (grind (arith, nat_tests))
    no false b f = refl

-- ---- each sequence is in one

abbrev lone : ℕ → ℕ → Bool → List Stripe
lone above keep b = cond b ((record { above = above; upto = keep }) ∷ []) []

filter_one : (seq above keep : ℕ) (ss : List Stripe) → filter (λ s. is_in s seq) (ss ++ (record { above = above; upto = keep }) ∷ []) ≡ filter (λ s. is_in s seq) ss ++ lone above keep (ltb above seq && leb seq keep)
filter_one seq above keep ss = filter-append (λ s. is_in s seq) ss ((record { above = above; upto = keep }) ∷ [])

-- sequences at or below all begins are in none
none_over : (seq : ℕ) (ss : List Stripe) → AllByRecursion (λ s. seq ≤ s.above) ss → filter (λ s. is_in s seq) ss ≡ []
none_over seq [] h = refl
none_over seq (s ∷ ss) h =
    let le : seq ≤ s.above = h.0 in
    let e : ltb s.above seq ≡ false = grind (arith, nat_tests) in
    ap (λ b. cond (b && leb seq s.upto) (s ∷ filter (λ s. is_in s seq) ss) (filter (λ s. is_in s seq) ss)) e ∙ none_over seq ss h.1

one_by : (seq above keep : ℕ) (keeps : List ℕ) (b : Bool) → leb seq keep ≡ b → above < seq → Rise (keep ∷ keeps) → (keep < seq → length (filter (λ s. is_in s seq) (stripes_above keep keeps)) ≡ 1) → length (filter (λ s. is_in s seq) (stripes_above above (keep ∷ keeps))) ≡ 1
one_by seq above keep keeps true e some rise rest =
    let low : ltb above seq ≡ true = grind (arith, nat_tests) in
    let le : seq ≤ keep = grind (arith, nat_tests) in
    let none : filter (λ s. is_in s seq) (stripes_above keep keeps) ≡ [] = none_over seq (stripes_above keep keeps) (all-map (λ s. keep ≤ s.above) (λ s. seq ≤ s.above) (λ s up. omega (arith, le, up)) (stripes_above keep keeps) (all_from keep keeps (rise_on keep keeps rise) (later_keeps keep keeps rise))) in
    ap length (filter_one seq above keep (stripes_above keep keeps)
    ∙ ap (λ (ss : List Stripe). ss ++ lone above keep (ltb above seq && leb seq keep)) none
    ∙ ap (λ c. lone above keep (c && leb seq keep)) low
    ∙ ap (lone above keep) e)
one_by seq above keep keeps false e some rise rest =
    let up : keep < seq = grind (arith, nat_tests) in
    ap length (filter_one seq above keep (stripes_above keep keeps)
    ∙ ap (λ (ss : List Stripe). filter (λ s. is_in s seq) (stripes_above keep keeps) ++ ss) (no_second (ltb above seq) (leb seq keep) e)
    ∙ append-nil (filter (λ s. is_in s seq) (stripes_above keep keeps)))
    ∙ rest up
  where
    no_second : (a b : Bool) → b ≡ false → lone above keep (a && b) ≡ []
    no_second true false f = refl
    no_second false b f = refl
    no_second true true f = absurd cc

one_above : (keeps : List ℕ) (above seq : ℕ) → Rise keeps → above < seq → seq < 2 ^ 56 → length (filter (λ s. is_in s seq) (stripes_above above keeps)) ≡ 1
one_above [] above seq rise some below =
    let low : ltb above seq ≡ true = grind (arith, nat_tests) in
    let high : leb seq (2 ^ 56 - 1) ≡ true = grind (arith, nat_tests) in
    ap (λ c. length (lone above (2 ^ 56 - 1) (c && leb seq (2 ^ 56 - 1)))) low
    ∙ ap (λ c. length (lone above (2 ^ 56 - 1) c)) high
one_above (keep ∷ keeps) above seq rise some below = one_by seq above keep keeps (leb seq keep) refl some rise (λ up. one_above keeps keep seq (rise_on keep keeps rise) up below)

pub one_stripe : (keeps : List ℕ) (seq : ℕ) → Rise keeps → 0 < seq → seq < 2 ^ 56 → length (filter (λ s. is_in s seq) (stripes keeps)) ≡ 1
one_stripe keeps seq rise some below = one_above keeps 0 seq rise some below

module _ {X : Type 0} (seq : X → ℕ) (make : Stripe → Option X) (inside : (s : Stripe) (x : X) → make s ≡ Some x → is_in s (seq x) ≡ true) where
  abbrev has : Stripe → X → Bool
  has s x = is_in s (seq x)

  passed : (s t : Stripe) (o : Option X) (rest : List X) → make t ≡ o → ((x : X) → is_in t (seq x) ≡ true → is_in s (seq x) ≡ false) → filter (has s) (cons_option o rest) ≡ filter (has s) rest
  passed s t None rest e apart = refl
  passed s t (Some x) rest e apart = ap (λ b. cond b (x ∷ filter (has s) rest) (filter (has s) rest)) (apart x (inside t x e))

  taken : (s : Stripe) (o : Option X) (rest : List X) → make s ≡ o → filter (has s) rest ≡ [] → filter (has s) (cons_option o rest) ≡ cons_option o []
  taken s None rest e none = none
  taken s (Some x) rest e none = ap (λ b. cond b (x ∷ filter (has s) rest) (filter (has s) rest)) (inside s x e) ∙ ap (λ (xs : List X). x ∷ xs) none

  none_lower : (s : Stripe) (ss : List Stripe) → AllByRecursion (λ t. t.upto ≤ s.above) ss → filter (has s) (filter_map make ss) ≡ []
  none_lower s [] h = refl
  none_lower s (t ∷ ts) h = passed s t (make t) (filter_map make ts) refl (λ x e. not_in_upper s t (seq x) h.0 e) ∙ none_lower s ts h.1

  abbrev pub IsOwn : List X → Stripe → Type 0
  IsOwn made s = filter (λ x. is_in s (seq x)) made ≡ cons_option (make s) []

  behind : (s : Stripe) (ss ts : List Stripe) → AllByRecursion (λ t. t.upto ≤ s.above) ts → AllByRecursion (IsOwn (filter_map make ss)) ts → AllByRecursion (IsOwn (filter_map make (s ∷ ss))) ts
  behind s ss [] h own = tt
  behind s ss (t ∷ ts) h own = (passed t s (make s) (filter_map make ss) refl (λ x e. not_in_lower s t (seq x) h.0 e) ∙ own.0, behind s ss ts h.1 own.1)

  pub each_own : (ss : List Stripe) → StripesFall ss → AllByRecursion (IsOwn (filter_map make ss)) ss
  each_own [] h = tt
  each_own (s ∷ ss) h = (taken s (make s) (filter_map make ss) refl (none_lower s ss h.0), behind s ss ss h.0 (each_own ss h.1))

  -- what is made for the stripes falls as they do
  abbrev pub FallsBy : List X → Type 0
  FallsBy [] = Unit {0}
  FallsBy (x ∷ xs) = AllByRecursion (λ y. seq y < seq x) xs × FallsBy xs

  first_falls : (t : Stripe) (rest : List X) (o : Option X) → make t ≡ o → AllByRecursion (λ y. seq y ≤ t.above) rest → FallsBy rest → FallsBy (cons_option o rest)
  first_falls t rest None e below falls = falls
  first_falls t rest (Some x) e below falls =
      let above : t.above < seq x = in_above t (seq x) (inside t x e) in
      (all-map (λ y. seq y ≤ t.above) (λ y. seq y < seq x) (λ y le. omega (arith, le, above)) rest below, falls)

  made_below : (n : ℕ) (t : Stripe) (rest : List X) (o : Option X) → make t ≡ o → t.upto ≤ n → AllByRecursion (λ y. seq y ≤ n) rest → AllByRecursion (λ y. seq y ≤ n) (cons_option o rest)
  made_below n t rest None e le h = h
  made_below n t rest (Some x) e le h = let upto : seq x ≤ t.upto = in_upto t (seq x) (inside t x e) in (omega (arith, le, upto), h)

  all_below : (n : ℕ) (ss : List Stripe) → AllByRecursion (λ t. t.upto ≤ n) ss → AllByRecursion (λ y. seq y ≤ n) (filter_map make ss)
  all_below n [] h = tt
  all_below n (t ∷ ts) h = made_below n t (filter_map make ts) (make t) refl h.0 (all_below n ts h.1)

  pub made_falls : (ss : List Stripe) → StripesFall ss → FallsBy (filter_map make ss)
  made_falls [] h = tt
  made_falls (t ∷ ts) h = first_falls t (filter_map make ts) (make t) refl (all_below t.above ts h.0) (made_falls ts h.1)

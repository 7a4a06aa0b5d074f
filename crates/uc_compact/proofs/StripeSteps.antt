-- The output for each stripe, from one stripe on that has any.
use Rattle.std.proofs.Common.{◌≡◌, ℕ, ◌<◌, ◌≤◌, Bool, true, false, cond, leb, ltb, List, [], ◌∷◌, ◌++◌, length, filter, refl, sym, ap, ◌∙◌, subst, arith}
use Rattle.std.specs.Prelude.{◌&&◌, Option, Some, None, filter_map}
use Rattle.std.specs.List.{AllByRecursion, cons_option}
use Rattle.std.proofs.lemmas.Bool.Decides.{nat_tests}
use Rattle.std.proofs.lemmas.List.Elements.{filter_map-append}
use Rattle.uc_compact.specs.Stripes.{Stripe, is_in, stripes, stripes_above, stripe_from, stripe_of}
use Rattle.uc_compact.proofs.NestedLists.{all-map, none-passed}
use Rattle.uc_compact.proofs.Parted.{Rise, rise_on, later_keeps, all_from, in_upto}

from_lower : (seq above keep : ℕ) (keeps : List ℕ) (b : Bool) → ltb keep seq ≡ b → (b ≡ true → keep ≤ (stripe_from keep keeps seq).above) → above ≤ keep → above ≤ (cond b (stripe_from keep keeps seq) (record { above = above; upto = keep })).above
from_lower seq above keep keeps true e rest le = let up : keep ≤ (stripe_from keep keeps seq).above = rest refl in omega (arith, up, le)
from_lower seq above keep keeps false e rest le = omega arith

-- the stripe of a sequence begins below it, and at or above where the stripes do
pub begins_from : (seq above : ℕ) (keeps : List ℕ) → Rise keeps → AllByRecursion (λ k. above ≤ k) keeps → above ≤ (stripe_from above keeps seq).above
begins_from seq above [] rise le = omega arith
begins_from seq above (k ∷ ks) rise le = from_lower seq above k ks (ltb k seq) refl (λ e. begins_from seq k ks (rise_on k ks rise) (later_keeps k ks rise)) le.0

below_by : (seq above keep : ℕ) (keeps : List ℕ) (b : Bool) → ltb keep seq ≡ b → (keep < seq → (stripe_from keep keeps seq).above < seq) → above < seq → (cond b (stripe_from keep keeps seq) (record { above = above; upto = keep })).above < seq
below_by seq above keep keeps true e rest lt = rest (grind (arith, nat_tests))
below_by seq above keep keeps false e rest lt = lt

pub begins_below : (seq above : ℕ) (keeps : List ℕ) → above < seq → (stripe_from above keeps seq).above < seq
begins_below seq above [] lt = lt
begins_below seq above (k ∷ ks) lt = below_by seq above k ks (ltb k seq) refl (λ below. begins_below seq k ks below) lt

module _ {X : Type 0} (f g : Stripe → Option X) (seq : ℕ) where
  -- stripes for which nothing is made
  none_made : (h : Stripe → Option X) (ss : List Stripe) → AllByRecursion (λ s. h s ≡ None) ss → filter_map h ss ≡ []
  none_made h [] e = refl
  none_made h (s ∷ ss) e = ap (λ (o : Option X). cons_option o (filter_map h ss)) e.0 ∙ none_made h ss e.1

  cons-append : (o : Option X) (xs ys : List X) → cons_option o xs ++ ys ≡ cons_option o (xs ++ ys)
  cons-append None xs ys = refl
  cons-append (Some x) xs ys = refl

  -- From a stripe on, `f` makes what it makes for the stripe, and then what `g` makes for those below: `f` makes nothing
  -- above, and `g` neither above nor there.
  Continues : ℕ → List ℕ → Type 0
  Continues above keeps = filter_map f (stripes_above above keeps) ≡ cons_option (f (stripe_from above keeps seq)) (filter_map g (stripes_above above keeps))

  module _ (f_none : (s : Stripe) → seq ≤ s.above → f s ≡ None) where
    continues_by : (above keep : ℕ) (keeps : List ℕ) (b : Bool) → ltb keep seq ≡ b → Rise (keep ∷ keeps) →
        ((s : Stripe) → (cond b (stripe_from keep keeps seq) (record { above = above; upto = keep })).above ≤ s.above → g s ≡ None) →
        ((s : Stripe) → s.upto ≤ (cond b (stripe_from keep keeps seq) (record { above = above; upto = keep })).above → f s ≡ g s) →
        (b ≡ true → filter_map f (stripes_above keep keeps) ≡ cons_option (f (stripe_from keep keeps seq)) (filter_map g (stripes_above keep keeps))) →
        above ≤ keep →
        filter_map f (stripes_above above (keep ∷ keeps)) ≡ cons_option (f (cond b (stripe_from keep keeps seq) (record { above = above; upto = keep }))) (filter_map g (stripes_above above (keep ∷ keeps)))
    continues_by above keep keeps true e rise g_none same rest le =
        let t : Stripe = record { above = above; upto = keep } in
        let s : Stripe = stripe_from keep keeps seq in
        let up : keep ≤ s.above = begins_from seq keep keeps (rise_on keep keeps rise) (later_keeps keep keeps rise) in
        filter_map-append f (stripes_above keep keeps) (t ∷ [])
        ∙ ap (λ (xs : List X). xs ++ cons_option (f t) []) (rest refl)
        ∙ cons-append (f s) (filter_map g (stripes_above keep keeps)) (cons_option (f t) [])
        ∙ ap (λ (o : Option X). cons_option (f s) (filter_map g (stripes_above keep keeps) ++ cons_option o [])) (same t up)
        ∙ ap (cons_option (f s)) (sym (filter_map-append g (stripes_above keep keeps) (t ∷ [])))
    continues_by above keep keeps false e rise g_none same rest le =
        let t : Stripe = record { above = above; upto = keep } in
        let at : seq ≤ keep = grind (arith, nat_tests) in
        let from : AllByRecursion (λ s. keep ≤ s.above) (stripes_above keep keeps) = all_from keep keeps (rise_on keep keeps rise) (later_keeps keep keeps rise) in
        let no_f : filter_map f (stripes_above keep keeps) ≡ [] = none_made f (stripes_above keep keeps) (all-map (λ s. keep ≤ s.above) (λ s. f s ≡ None) (λ s up. f_none s (omega (arith, at, up))) (stripes_above keep keeps) from) in
        let no_g : filter_map g (stripes_above keep keeps) ≡ [] = none_made g (stripes_above keep keeps) (all-map (λ s. keep ≤ s.above) (λ s. g s ≡ None) (λ s up. g_none s (omega (arith, le, up))) (stripes_above keep keeps) from) in
        filter_map-append f (stripes_above keep keeps) (t ∷ [])
        ∙ ap (λ (xs : List X). xs ++ cons_option (f t) []) no_f
        ∙ ap (cons_option (f t)) (sym (filter_map-append g (stripes_above keep keeps) (t ∷ []) ∙ ap (λ (xs : List X). xs ++ cons_option (g t) []) no_g ∙ ap (λ (o : Option X). cons_option o []) (g_none t (omega arith))))

    continues_above : (above : ℕ) (keeps : List ℕ) → Rise keeps → AllByRecursion (λ k. above ≤ k) keeps →
        ((s : Stripe) → (stripe_from above keeps seq).above ≤ s.above → g s ≡ None) →
        ((s : Stripe) → s.upto ≤ (stripe_from above keeps seq).above → f s ≡ g s) →
        filter_map f (stripes_above above keeps) ≡ cons_option (f (stripe_from above keeps seq)) (filter_map g (stripes_above above keeps))
    continues_above above [] rise le g_none same =
        ap (cons_option (f (stripe_from above [] seq))) (sym (ap (λ (o : Option X). cons_option o []) (g_none (stripe_from above [] seq) (omega arith))))
    continues_above above (k ∷ ks) rise le g_none same =
        continues_by above k ks (ltb k seq) refl rise g_none same
        (λ e. continues_above k ks (rise_on k ks rise) (later_keeps k ks rise)
        (λ s up. g_none s (subst (λ b. (cond b (stripe_from k ks seq) (record { above = above; upto = k })).above ≤ s.above) (sym e) up))
        (λ s up. same s (subst (λ b. s.upto ≤ (cond b (stripe_from k ks seq) (record { above = above; upto = k })).above) (sym e) up)))
        le.0

    pub continues : (keeps : List ℕ) → Rise keeps →
        ((s : Stripe) → (stripe_of keeps seq).above ≤ s.above → g s ≡ None) →
        ((s : Stripe) → s.upto ≤ (stripe_of keeps seq).above → f s ≡ g s) →
        filter_map f (stripes keeps) ≡ cons_option (f (stripe_of keeps seq)) (filter_map g (stripes keeps))
    continues keeps rise g_none same = continues_above 0 keeps rise (from_zero keeps) g_none same
      where
        from_zero : (ks : List ℕ) → AllByRecursion (λ k. 0 ≤ k) ks
        from_zero [] = tt
        from_zero (k ∷ ks) = (omega arith, from_zero ks)

-- ---- what a stripe has of a list

module _ {X : Type 0} (n : X → ℕ) where
  not_in : (s : Stripe) (k : ℕ) → k ≤ s.above → is_in s k ≡ false
  not_in s k le = no (ltb s.above k) (leb k s.upto) refl
    where
      no : (a b : Bool) → ltb s.above k ≡ a → (a && b) ≡ false
      no true b e = absurd (grind (arith, nat_tests))
      no false b e = refl

  -- a stripe that begins at or above all
  pub none_in : (s : Stripe) (xs : List X) → AllByRecursion (λ x. n x ≤ s.above) xs → filter (λ x. is_in s (n x)) xs ≡ []
  none_in s xs h = none-passed (λ x. is_in s (n x)) xs (all-map (λ x. n x ≤ s.above) (λ x. is_in s (n x) ≡ false) (λ x le. not_in s (n x) le) xs h)

  at_or_below : (s : Stripe) (a k : ℕ) → s.upto ≤ a → is_in s k ≡ true → leb k a ≡ true
  at_or_below s a k le e = let upto : k ≤ s.upto = in_upto s k e in grind (arith, nat_tests)

  -- a stripe below loses nothing where what is above goes
  pub still_in : (s : Stripe) (a : ℕ) → s.upto ≤ a → (xs : List X) → filter (λ x. is_in s (n x)) (filter (λ x. leb (n x) a) xs) ≡ filter (λ x. is_in s (n x)) xs
  still_in s a le [] = refl
  still_in s a le (x ∷ xs) = put (still_in s a le xs) (leb (n x) a) (is_in s (n x)) refl refl
    where
      put : filter (λ y. is_in s (n y)) (filter (λ y. leb (n y) a) xs) ≡ filter (λ y. is_in s (n y)) xs → (b c : Bool) → leb (n x) a ≡ b → is_in s (n x) ≡ c → filter (λ y. is_in s (n y)) (cond b (x ∷ filter (λ y. leb (n y) a) xs) (filter (λ y. leb (n y) a) xs)) ≡ cond c (x ∷ filter (λ y. is_in s (n y)) xs) (filter (λ y. is_in s (n y)) xs)
      put same true true e f = ap (λ b. cond b (x ∷ filter (λ y. is_in s (n y)) (filter (λ y. leb (n y) a) xs)) (filter (λ y. is_in s (n y)) (filter (λ y. leb (n y) a) xs))) f ∙ ap (λ (ys : List X). x ∷ ys) same
      put same true false e f = ap (λ b. cond b (x ∷ filter (λ y. is_in s (n y)) (filter (λ y. leb (n y) a) xs)) (filter (λ y. is_in s (n y)) (filter (λ y. leb (n y) a) xs))) f ∙ same
      put same false true e f = absurd (differ (sym e ∙ at_or_below s a (n x) le f))
        where
          differ : false ≡ true → ⊥
          differ g = absurd cc
      put same false false e f = same

  -- what is left is at or below
  pub left_below : (a : ℕ) (xs : List X) → AllByRecursion (λ x. n x ≤ a) (filter (λ x. leb (n x) a) xs)
  left_below a [] = tt
  left_below a (x ∷ xs) = put (left_below a xs) (leb (n x) a) refl
    where
      put : AllByRecursion (λ y. n y ≤ a) (filter (λ y. leb (n y) a) xs) → (b : Bool) → leb (n x) a ≡ b → AllByRecursion (λ y. n y ≤ a) (cond b (x ∷ filter (λ y. leb (n y) a) xs) (filter (λ y. leb (n y) a) xs))
      put rest true e = (grind (arith, nat_tests), rest)
      put rest false e = rest

  shorter : (test : X → Bool) (xs : List X) → length (filter test xs) ≤ length xs
  shorter test [] = omega arith
  shorter test (x ∷ xs) = put (test x) (shorter test xs)
    where
      put : (b : Bool) → length (filter test xs) ≤ length xs → length (cond b (x ∷ filter test xs) (filter test xs)) ≤ length (x ∷ xs)
      put true le = omega (arith, le)
      put false le = omega (arith, le)

  -- the first one goes, so less is left
  pub fewer : (a : ℕ) (x : X) (xs : List X) → a < n x → length (filter (λ y. leb (n y) a) (x ∷ xs)) < length (x ∷ xs)
  fewer a x xs lt = put (leb (n x) a) refl (shorter (λ y. leb (n y) a) xs)
    where
      put : (b : Bool) → leb (n x) a ≡ b → length (filter (λ y. leb (n y) a) xs) ≤ length xs → length (cond b (x ∷ filter (λ y. leb (n y) a) xs) (filter (λ y. leb (n y) a) xs)) < length (x ∷ xs)
      put true e le = absurd (grind (arith, nat_tests))
      put false e le = omega (arith, le)

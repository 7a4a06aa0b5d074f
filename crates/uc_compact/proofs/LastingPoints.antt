-- Points that a newer one of their stripe hides change nothing of what is kept.
use Rattle.std.proofs.Common.{◌≡◌, ◌≢◌, ℕ, ◌+◌, ◌-◌, ◌<◌, ◌≤◌, Bool, true, false, cond, leb, ltb, List, [], ◌∷◌, ◌++◌, length, map, filter, refl, sym, ap, ◌∙◌, subst, arith}
use Rattle.std.specs.Prelude.{⊤, ◌&&◌, Option, Some, None, option_map, filter_map, slice_get}
use Rattle.std.specs.List.{AllByRecursion, cons_option}
use Rattle.std.specs.List.Sorted.{IsStrictlySortedBy}
use Rattle.std.specs.declared.cmp.Ordering.TheVariants.{Less}
use Rattle.std.specs.Ordering.{nat_cmp}
use Rattle.std.proofs.lemmas.Bool.Decides.{nat_tests}
use Rattle.std.proofs.lemmas.Bool.{false≢true}
use Rattle.std.proofs.lemmas.List.{append-nil, append_assoc}
use Rattle.uc_oper.specs.Operation.{Operation}
use Rattle.uc_oper.specs.Composition.{composed}
use Rattle.uc_oper.specs.declared.effect.Effect.{Effect}
use Rattle.uc_oper.specs.declared.effect.Effect.TheVariants.{Keep, Set}
use Rattle.uc_run_entry.specs.declared.entry.Entry.{Entry}
use Rattle.uc_run_entry.specs.Fragment.{Fragment}
use Rattle.uc_run_entry.specs.Lookup.{what_effect, points_effect, above_newest}
use Rattle.uc_run_entry.specs.Overwriting.{overwrites}
use Rattle.uc_compact.specs.Stripes.{Stripe, Keeping, is_in, is_bottom, stripes, stripes_above, stripe_from, stripe_of}
use Rattle.uc_compact.specs.Output.{greatest, what_kept}
use Rattle.uc_compact.specs.Groups.{Group}
use Rattle.uc_compact.specs.Choice.{AreOfOneKey, PointsFall, point_for, points_for, seqs_over}
use Rattle.uc_compact.specs.Lasting.{has_both, hides, is_hidden, with_lasting, lasting, lasting_group}
use Rattle.uc_compact.proofs.NestedLists.{all-append, all-map, all-mapped, all-filter}
use Rattle.uc_compact.proofs.Choosing.{greatest_first}
use Rattle.uc_compact.proofs.InTurn.{set_after}
use Rattle.uc_compact.proofs.Parted.{Rise, rise_on, later_keeps, all_from, in_upto}
use Rattle.uc_compact.proofs.Pushing.{of_group, of_groups, HasOneKey}
use Rattle.uc_compact.proofs.StripeSteps.{begins_from}

-- ---- two sequences of one stripe are in no other stripe

in_above : (s : Stripe) (k : ℕ) → is_in s k ≡ true → s.above < k
in_above s k e = by (ltb s.above k) refl
  where
    by : (b : Bool) → ltb s.above k ≡ b → s.above < k
    by true f = grind (arith, nat_tests)
    by false f = absurd (false≢true (sym (ap (λ c. c && leb k s.upto) f) ∙ e))

both : (s : Stripe) (q p : ℕ) → has_both s q p ≡ true → (is_in s q ≡ true) × (is_in s p ≡ true)
both s q p e = by (is_in s q) refl
  where
    by : (b : Bool) → is_in s q ≡ b → (is_in s q ≡ true) × (is_in s p ≡ true)
    by true f = (f, sym (ap (λ c. c && is_in s p) f) ∙ e)
    by false f = absurd (false≢true (sym (ap (λ c. c && is_in s p) f) ∙ e))

-- a stripe that has the older of two sequences of one stripe has the newer one
abbrev HasNewer : ℕ → List ℕ → Stripe → Type 0
HasNewer above keeps s = (q p : ℕ) → has_both (stripe_from above keeps q) q p ≡ true → is_in s p ≡ true → is_in s q ≡ true

all-both : {X : Type 0} (P Q : X → Type 0) (xs : List X) → AllByRecursion P xs → AllByRecursion Q xs → AllByRecursion (λ x. P x × Q x) xs
all-both P Q [] h k = tt
all-both P Q (x ∷ xs) h k = ((h.0, k.0), all-both P Q xs h.1 k.1)

newer_above : (above keep : ℕ) (keeps : List ℕ) → Rise (keep ∷ keeps) → (s : Stripe) → (keep ≤ s.above) × HasNewer keep keeps s → HasNewer above (keep ∷ keeps) s
newer_above above keep keeps rise s h q p = by (ltb keep q) refl
  where
    by : (b : Bool) → ltb keep q ≡ b → has_both (cond b (stripe_from keep keeps q) (record { above = above; upto = keep })) q p ≡ true → is_in s p ≡ true → is_in s q ≡ true
    by true e have is = h.1 q p have is
    by false e have is =
        let le : keep ≤ s.above = h.0 in
        let lt : s.above < p = in_above s p is in
        let upto : p ≤ keep = in_upto (record { above = above; upto = keep }) p (both (record { above = above; upto = keep }) q p have).1 in
        absurd (omega (arith, le, lt, upto))

newer_last : (above keep : ℕ) (keeps : List ℕ) → Rise (keep ∷ keeps) → HasNewer above (keep ∷ keeps) (record { above = above; upto = keep })
newer_last above keep keeps rise q p = by (ltb keep q) refl
  where
    by : (b : Bool) → ltb keep q ≡ b → has_both (cond b (stripe_from keep keeps q) (record { above = above; upto = keep })) q p ≡ true → is_in (record { above = above; upto = keep }) p ≡ true → is_in (record { above = above; upto = keep }) q ≡ true
    by true e have is =
        let from : keep ≤ (stripe_from keep keeps q).above = begins_from q keep keeps (rise_on keep keeps rise) (later_keeps keep keeps rise) in
        let lt : (stripe_from keep keeps q).above < p = in_above (stripe_from keep keeps q) p (both (stripe_from keep keeps q) q p have).1 in
        let upto : p ≤ keep = in_upto (record { above = above; upto = keep }) p is in
        absurd (omega (arith, from, lt, upto))
    by false e have is = (both (record { above = above; upto = keep }) q p have).0

have_newer : (above : ℕ) (keeps : List ℕ) → Rise keeps → AllByRecursion (HasNewer above keeps) (stripes_above above keeps)
have_newer above [] rise = ((λ q p have is. (both (stripe_from above [] q) q p have).0), tt)
have_newer above (k ∷ ks) rise =
    all-append (HasNewer above (k ∷ ks)) (stripes_above k ks) (record { above = above; upto = k } ∷ [])
    (all-map (λ s. (k ≤ s.above) × HasNewer k ks s) (HasNewer above (k ∷ ks)) (newer_above above k ks rise) (stripes_above k ks)
    (all-both (λ s. k ≤ s.above) (HasNewer k ks) (stripes_above k ks) (all_from k ks (rise_on k ks rise) (later_keeps k ks rise)) (have_newer k ks (rise_on k ks rise))))
    (newer_last above k ks rise, tt)

-- ---- the points that are left after a point

module _ (keeps : List ℕ) where
  abbrev behind : Entry → List Entry → List Entry
  behind q [] = []
  behind q (p ∷ ps) = cond (hides keeps q p) (behind q ps) (p ∷ behind p ps)

  last_at : (xs : List Entry) (q : Entry) → slice_get (xs ++ q ∷ []) (length xs) ≡ Some q
  last_at [] q = refl
  last_at (x ∷ xs) q = last_at xs q

  one_more : (xs : List Entry) (q : Entry) → length (xs ++ q ∷ []) - 1 ≡ length xs
  one_more [] q = refl
  one_more (x ∷ xs) q = let more : length (xs ++ q ∷ []) ≡ length xs + 1 = long xs in omega (arith, more)
    where
      long : (ys : List Entry) → length (ys ++ q ∷ []) ≡ length ys + 1
      long [] = refl
      long (y ∷ ys) = let rest : length (ys ++ q ∷ []) ≡ length ys + 1 = long ys in omega (arith, rest)

  last_is : (xs : List Entry) (q : Entry) → slice_get (xs ++ q ∷ []) (length (xs ++ q ∷ []) - 1) ≡ Some q
  last_is xs q = ap (slice_get (xs ++ q ∷ [])) (one_more xs q) ∙ last_at xs q

  left_behind : (xs : List Entry) (q : Entry) (ps : List Entry) → with_lasting keeps (xs ++ q ∷ []) ps ≡ (xs ++ q ∷ []) ++ behind q ps
  left_behind xs q [] = sym (append-nil (xs ++ q ∷ []))
  left_behind xs q (p ∷ ps) =
      ap (λ o. with_lasting keeps (cond (is_hidden keeps o p) (xs ++ q ∷ []) ((xs ++ q ∷ []) ++ p ∷ [])) ps) (last_is xs q)
      ∙ by (hides keeps q p) (left_behind xs q ps) (left_behind (xs ++ q ∷ []) p ps)
    where
      by : (b : Bool) → with_lasting keeps (xs ++ q ∷ []) ps ≡ (xs ++ q ∷ []) ++ behind q ps → with_lasting keeps ((xs ++ q ∷ []) ++ p ∷ []) ps ≡ ((xs ++ q ∷ []) ++ p ∷ []) ++ behind p ps → with_lasting keeps (cond b (xs ++ q ∷ []) ((xs ++ q ∷ []) ++ p ∷ [])) ps ≡ (xs ++ q ∷ []) ++ cond b (behind q ps) (p ∷ behind p ps)
      by true hidden shown = hidden
      by false hidden shown = shown ∙ append_assoc (xs ++ q ∷ []) (p ∷ []) (behind p ps)

  lasting_is : (p : Entry) (ps : List Entry) → lasting keeps (p ∷ ps) ≡ p ∷ behind p ps
  lasting_is p ps = left_behind [] p ps

  -- what holds of all
  all_behind : (P : Entry → Type 0) (q : Entry) (ps : List Entry) → AllByRecursion P ps → AllByRecursion P (behind q ps)
  all_behind P q [] h = tt
  all_behind P q (p ∷ ps) h = by (hides keeps q p) (all_behind P q ps h.1) (all_behind P p ps h.1)
    where
      by : (b : Bool) → AllByRecursion P (behind q ps) → AllByRecursion P (behind p ps) → AllByRecursion P (cond b (behind q ps) (p ∷ behind p ps))
      by true hidden shown = hidden
      by false hidden shown = (h.0, shown)

  all_lasting : (P : Entry → Type 0) (ps : List Entry) → AllByRecursion P ps → AllByRecursion P (lasting keeps ps)
  all_lasting P [] h = tt
  all_lasting P (p ∷ ps) h = subst (AllByRecursion P) (sym (lasting_is p ps)) (h.0, all_behind P p ps h.1)

  fall_behind : (q : Entry) (ps : List Entry) → PointsFall ps → PointsFall (behind q ps)
  unfolding IsStrictlySortedBy
  fall_behind q [] h = tt
  fall_behind q (p ∷ ps) h = by (hides keeps q p) (fall_behind q ps h.1) (fall_behind p ps h.1)
    where
      by : (b : Bool) → PointsFall (behind q ps) → PointsFall (behind p ps) → PointsFall (cond b (behind q ps) (p ∷ behind p ps))
      by true hidden shown = hidden
      by false hidden shown = (all_behind (λ x. nat_cmp x.seq p.seq ≡ Less) p ps h.0, shown)

  lasting_fall : (ps : List Entry) → PointsFall ps → PointsFall (lasting keeps ps)
  unfolding IsStrictlySortedBy
  lasting_fall [] h = tt
  lasting_fall (p ∷ ps) h = subst PointsFall (sym (lasting_is p ps)) (all_behind (λ x. nat_cmp x.seq p.seq ≡ Less) p ps h.0, fall_behind p ps h.1)

  pub lasting_of_one_key : (ps : List Entry) (seqs : List ℕ) → AreOfOneKey ps seqs → AreOfOneKey (lasting keeps ps) seqs
  lasting_of_one_key ps seqs h = record {
    points_fall = lasting_fall ps h.points_fall;
    seqs_fall = h.seqs_fall;
    points_from_one = all_lasting (λ p. 0 < p.seq) ps h.points_from_one;
    seqs_from_one = h.seqs_from_one;
    apart = all_lasting (λ p. AllByRecursion (λ n. n ≢ p.seq) seqs) ps h.apart;
  }

-- ---- what passes a test that a newer point passes if one that it hides does

abbrev Below : Entry → List Entry → Type 0
Below q ps = AllByRecursion (λ p. p.seq < q.seq) ps

-- each point is above those after it
abbrev Fall : List Entry → Type 0
Fall [] = ⊤
Fall (p ∷ ps) = Below p ps × Fall ps

fall_by : (ps : List Entry) → PointsFall ps → Fall ps
unfolding IsStrictlySortedBy
fall_by [] h = tt
fall_by (p ∷ ps) h = (all-map (λ q. nat_cmp q.seq p.seq ≡ Less) (λ q. q.seq < p.seq) (λ q e. grind (arith, nat_tests)) ps h.0, fall_by ps h.1)

-- the greatest sequence
abbrev top : List Entry → ℕ
top ps = greatest (map (λ p. p.seq) ps)

top_first : (p : Entry) (ps : List Entry) → Below p ps → top (p ∷ ps) ≡ p.seq
top_first p ps below = greatest_first p.seq (map (λ q. q.seq) ps) (all-mapped (λ q. q.seq) (λ n. n < p.seq) ps below)

module _ (keeps : List ℕ) (t : Entry → Bool) (passes : (q p : Entry) → p.seq < q.seq → hides keeps q p ≡ true → t p ≡ true → t q ≡ true) where
  overwriting : (q p : Entry) → hides keeps q p ≡ true → overwrites q ≡ true
  overwriting q p e = by (overwrites q) refl
    where
      by : (b : Bool) → overwrites q ≡ b → overwrites q ≡ true
      by true f = f
      by false f = absurd (false≢true (sym (ap (λ c. c && has_both (stripe_of keeps q.seq) q.seq p.seq) f) ∙ e))

  module _ (m : Operation) (before : Effect) where
    abbrev does : List Entry → Effect
    does ps = points_effect m before ps

    -- the newest passes
    same_on : (p : Entry) (older other : List Entry) → (overwrites p ≡ false → does older ≡ does other) → does (p ∷ older) ≡ does (p ∷ other)
    same_on p older other rest = by (overwrites p) refl
      where
        by : (b : Bool) → overwrites p ≡ b → does (p ∷ older) ≡ does (p ∷ other)
        by true e = set_after m (does older) (does other) p.what e
        by false e = ap (λ (effect : Effect). composed m effect (what_effect p.what)) (rest e)

    behind_does : (q : Entry) (ps : List Entry) → Below q ps → Fall ps → (t q ≡ true → overwrites q ≡ false) → does (filter t (behind keeps q ps)) ≡ does (filter t ps)
    behind_does q [] below fall lone = refl
    behind_does q (p ∷ ps) below fall lone = by (behind_does q ps below.1 fall.1 lone) (behind_does p ps fall.0 fall.1) (hides keeps q p) (t p) refl refl
      where
        by : does (filter t (behind keeps q ps)) ≡ does (filter t ps) → ((t p ≡ true → overwrites p ≡ false) → does (filter t (behind keeps p ps)) ≡ does (filter t ps)) → (b c : Bool) → hides keeps q p ≡ b → t p ≡ c → does (filter t (cond b (behind keeps q ps) (p ∷ behind keeps p ps))) ≡ does (cond c (p ∷ filter t ps) (filter t ps))
        by hidden shown true true e f = absurd (false≢true (sym (lone (passes q p below.0 e f)) ∙ overwriting q p e))
        by hidden shown true false e f = hidden
        by hidden shown false true e f =
            ap (λ c. does (cond c (p ∷ filter t (behind keeps p ps)) (filter t (behind keeps p ps)))) f
            ∙ same_on p (filter t (behind keeps p ps)) (filter t ps) (λ g. shown (λ _. g))
        by hidden shown false false e f =
            ap (λ c. does (cond c (p ∷ filter t (behind keeps p ps)) (filter t (behind keeps p ps)))) f
            ∙ shown (λ g. absurd (false≢true (sym f ∙ g)))

    pub lasting_does : (ps : List Entry) → Fall ps → does (filter t (lasting keeps ps)) ≡ does (filter t ps)
    lasting_does [] fall = refl
    lasting_does (p ∷ ps) fall = ap (λ (qs : List Entry). does (filter t qs)) (lasting_is keeps p ps) ∙ by (t p) refl
      where
        by : (c : Bool) → t p ≡ c → does (cond c (p ∷ filter t (behind keeps p ps)) (filter t (behind keeps p ps))) ≡ does (cond c (p ∷ filter t ps) (filter t ps))
        by true f = same_on p (filter t (behind keeps p ps)) (filter t ps) (λ g. behind_does p ps fall.0 fall.1 (λ _. g))
        by false f = behind_does p ps fall.0 fall.1 (λ g. absurd (false≢true (sym f ∙ g)))

  same_top : (p : Entry) (ps : List Entry) → Below p ps → top (p ∷ filter t (behind keeps p ps)) ≡ top (p ∷ filter t ps)
  same_top p ps below =
      top_first p (filter t (behind keeps p ps)) (all-filter (λ q. q.seq < p.seq) t (behind keeps p ps) (all_behind keeps (λ q. q.seq < p.seq) p ps below))
      ∙ sym (top_first p (filter t ps) (all-filter (λ q. q.seq < p.seq) t ps below))

  behind_top : (q : Entry) (ps : List Entry) → Below q ps → Fall ps → t q ≡ false → top (filter t (behind keeps q ps)) ≡ top (filter t ps)
  behind_top q [] below fall other = refl
  behind_top q (p ∷ ps) below fall other = by (behind_top q ps below.1 fall.1 other) (behind_top p ps fall.0 fall.1) (hides keeps q p) (t p) refl refl
    where
      by : top (filter t (behind keeps q ps)) ≡ top (filter t ps) → (t p ≡ false → top (filter t (behind keeps p ps)) ≡ top (filter t ps)) → (b c : Bool) → hides keeps q p ≡ b → t p ≡ c → top (filter t (cond b (behind keeps q ps) (p ∷ behind keeps p ps))) ≡ top (cond c (p ∷ filter t ps) (filter t ps))
      by hidden shown true true e f = absurd (false≢true (sym other ∙ passes q p below.0 e f))
      by hidden shown true false e f = hidden
      by hidden shown false true e f = ap (λ c. top (cond c (p ∷ filter t (behind keeps p ps)) (filter t (behind keeps p ps)))) f ∙ same_top p ps fall.0
      by hidden shown false false e f = ap (λ c. top (cond c (p ∷ filter t (behind keeps p ps)) (filter t (behind keeps p ps)))) f ∙ shown f

  pub lasting_top : (ps : List Entry) → Fall ps → top (filter t (lasting keeps ps)) ≡ top (filter t ps)
  lasting_top [] fall = refl
  lasting_top (p ∷ ps) fall = ap (λ (qs : List Entry). top (filter t qs)) (lasting_is keeps p ps) ∙ by (t p) refl
    where
      by : (c : Bool) → t p ≡ c → top (cond c (p ∷ filter t (behind keeps p ps)) (filter t (behind keeps p ps))) ≡ top (cond c (p ∷ filter t ps) (filter t ps))
      by true f = same_top p ps fall.0
      by false f = behind_top p ps fall.0 fall.1 f

-- ---- what is kept

have_both : (keeps : List ℕ) (q p : Entry) → hides keeps q p ≡ true → has_both (stripe_of keeps q.seq) q.seq p.seq ≡ true
have_both keeps q p e = by (overwrites q) refl
  where
    by : (b : Bool) → overwrites q ≡ b → has_both (stripe_of keeps q.seq) q.seq p.seq ≡ true
    by true f = sym (ap (λ c. c && has_both (stripe_of keeps q.seq) q.seq p.seq) f) ∙ e
    by false f = absurd (false≢true (sym (ap (λ c. c && has_both (stripe_of keeps q.seq) q.seq p.seq) f) ∙ e))

module _ (s : Stripe) where
  -- whether it is a point of the stripe, and whether it is above a sequence
  abbrev is_own : Entry → Bool
  is_own p = is_in s p.seq

  abbrev is_above : ℕ → Entry → Bool
  is_above n p = is_own p && ltb n p.seq

  twice : (n : ℕ) (ps : List Entry) → filter (λ p. ltb n p.seq) (filter is_own ps) ≡ filter (is_above n) ps
  twice n [] = refl
  twice n (p ∷ ps) = by (twice n ps) (is_own p)
    where
      by : filter (λ q. ltb n q.seq) (filter is_own ps) ≡ filter (is_above n) ps → (b : Bool) → filter (λ q. ltb n q.seq) (cond b (p ∷ filter is_own ps) (filter is_own ps)) ≡ cond (b && ltb n p.seq) (p ∷ filter (is_above n) ps) (filter (is_above n) ps)
      by same true = ap (λ (qs : List Entry). cond (ltb n p.seq) (p ∷ qs) qs) same
      by same false = same

  module _ (keeps : List ℕ) (newer : HasNewer 0 keeps s) where
    passes_own : (q p : Entry) → p.seq < q.seq → hides keeps q p ≡ true → is_own p ≡ true → is_own q ≡ true
    passes_own q p lt e is = newer q.seq p.seq (have_both keeps q p e) is

    passes_above : (n : ℕ) (q p : Entry) → p.seq < q.seq → hides keeps q p ≡ true → is_above n p ≡ true → is_above n q ≡ true
    passes_above n q p lt e is = by (is_own p) (ltb n p.seq) refl refl
      where
        by : (b c : Bool) → is_own p ≡ b → ltb n p.seq ≡ c → is_above n q ≡ true
        by true true f g =
            let up : ltb n q.seq ≡ true = grind (arith, nat_tests) in
            ap (λ d. d && ltb n q.seq) (passes_own q p lt e f) ∙ up
        by true false f g = absurd (false≢true (sym (ap (λ d. d && ltb n p.seq) f ∙ g) ∙ is))
        by false c f g = absurd (false≢true (sym (ap (λ d. d && ltb n p.seq) f) ∙ is))

    module _ (m : Operation) (ps : List Entry) (fall : Fall ps) where
      effect_stays : (ns : List ℕ) → above_newest m (filter is_own (lasting keeps ps)) ns ≡ above_newest m (filter is_own ps) ns
      effect_stays [] = lasting_does keeps is_own passes_own m Keep ps fall
      effect_stays (n ∷ ns) =
          ap (points_effect m (Set None)) (twice n (lasting keeps ps))
          ∙ lasting_does keeps (is_above n) (passes_above n) m (Set None) ps fall
          ∙ ap (points_effect m (Set None)) (sym (twice n ps))

      point_stays : (bottom : Bool) (key : List ℕ) (ns : List ℕ) → point_for m bottom key (filter is_own (lasting keeps ps)) ns ≡ point_for m bottom key (filter is_own ps) ns
      point_stays bottom key ns =
          ap (λ n. cond (ltb 0 n) (option_map (λ what. record { key = key; seq = n; what = what }) (what_kept m bottom (above_newest m (filter is_own (lasting keeps ps)) ns) (ltb n (greatest ns)))) None) (lasting_top keeps is_own passes_own ps fall)
          ∙ ap (λ (effect : Effect). cond (ltb 0 (top (filter is_own ps))) (option_map (λ what. record { key = key; seq = top (filter is_own ps); what = what }) (what_kept m bottom effect (ltb (top (filter is_own ps)) (greatest ns)))) None) (effect_stays ns)

same_made : (f g : Stripe → Option Entry) (ss : List Stripe) → AllByRecursion (λ s. f s ≡ g s) ss → filter_map f ss ≡ filter_map g ss
same_made f g [] h = refl
same_made f g (s ∷ ss) h = ap (λ (o : Option Entry). cons_option o (filter_map f ss)) h.0 ∙ ap (cons_option (g s)) (same_made f g ss h.1)

module _ (m : Operation) (k : Keeping) (rise : Rise k.keeps) where
  pub lasting_points : (key : List ℕ) (ps : List Entry) (seqs : List ℕ) → PointsFall ps → points_for m k key (lasting k.keeps ps) seqs ≡ points_for m k key ps seqs
  lasting_points key ps seqs fall =
      same_made (λ s. point_for m (is_bottom k s) key (filter (is_own s) (lasting k.keeps ps)) (filter (is_in s) seqs)) (λ s. point_for m (is_bottom k s) key (filter (is_own s) ps) (filter (is_in s) seqs)) (stripes k.keeps)
      (all-map (HasNewer 0 k.keeps) (λ s. point_for m (is_bottom k s) key (filter (is_own s) (lasting k.keeps ps)) (filter (is_in s) seqs) ≡ point_for m (is_bottom k s) key (filter (is_own s) ps) (filter (is_in s) seqs))
      (λ s newer. point_stays s k.keeps newer m ps (fall_by ps fall) (is_bottom k s) key (filter (is_in s) seqs)) (stripes k.keeps) (have_newer 0 k.keeps rise))

  module _ (cut : List Fragment) where
    pub lasting_groups : (gs : List Group) → AllByRecursion (HasOneKey m k cut) gs → of_groups m k cut (map (lasting_group k.keeps) gs) ≡ of_groups m k cut gs
    lasting_groups [] h = refl
    lasting_groups (g ∷ gs) h =
        ap (λ (ps : List Entry). ps ++ of_groups m k cut (map (lasting_group k.keeps) gs)) (lasting_points g.key g.points (seqs_over g.key cut) h.0.points_fall)
        ∙ ap (λ (ps : List Entry). of_group m k cut g ++ ps) (lasting_groups gs h.1)

    pub lasting_have : (gs : List Group) → AllByRecursion (HasOneKey m k cut) gs → AllByRecursion (HasOneKey m k cut) (map (lasting_group k.keeps) gs)
    lasting_have gs h =
        all-mapped (lasting_group k.keeps) (HasOneKey m k cut) gs
        (all-map (HasOneKey m k cut) (λ g. HasOneKey m k cut (lasting_group k.keeps g)) (λ g one. lasting_of_one_key k.keeps g.points (seqs_over g.key cut) one) gs h)

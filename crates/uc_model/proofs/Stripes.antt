-- Writes whose sequences don't fall, cut at a sequence.
use Rattle.std.proofs.Common.{◌≡◌, ℕ, suc, ◌<◌, ◌≤◌, Bool, true, false, cond, leb, ltb, List, [], ◌∷◌, ◌++◌, None, filter, refl, sym, ap, ◌∙◌, arith}
use Rattle.std.specs.Prelude.{◌&&◌}
use Rattle.std.specs.List.{AllByRecursion}
use Rattle.std.specs.List.Sorted.{IsNonDecreasingBy}
use Rattle.std.proofs.lemmas.Bool.Decides.{nat_tests}
use Rattle.std.proofs.lemmas.List.Elements.{recursion_from_All}
use Rattle.uc_oper.specs.Operation.{Operation, IsLawful}
use Rattle.uc_oper.specs.Composition.{composed, applied, applied-composed}
use Rattle.uc_oper.specs.declared.effect.Effect.{Effect}
use Rattle.uc_bytes.specs.declared.write.Write.{Write}
use Rattle.uc_model.specs.Meaning.{touches_key, touching, touching_within, value_of, effect_in_turn, effect_on, effect_within}
use Rattle.uc_model.proofs.MeaningLaws.{effect_gives, and_false, filter_none, turns_compose}

-- sequences that don't fall, by the first write and the others
abbrev DontFall : List Write → Type 0
DontFall [] = Unit {0}
DontFall (w ∷ ws) = AllByRecursion (λ v. w.seq ≤ v.seq) ws × DontFall ws

dont_fall : (ws : List Write) → IsNonDecreasingBy (λ (w : Write). w.seq) ws → DontFall ws
dont_fall [] h = tt
dont_fall (w ∷ ws) h = (
  recursion_from_All (λ (v : Write). w.seq ≤ v.seq) ws (λ k d l. h 0 (suc k) d (omega arith) (omega arith)),
  dont_fall ws (λ i j d l r. h (suc i) (suc j) d (omega arith) (omega arith)),
)

leb_up : (a b c : ℕ) → leb a b ≡ true → b ≤ c → leb a c ≡ true
leb_up a b c e l = grind (arith, nat_tests)

ltb_no : (a b : ℕ) → leb a b ≡ true → ltb b a ≡ false
ltb_no a b e = grind (arith, nat_tests)

above : (a b : ℕ) → leb a b ≡ false → b < a
above a b e = grind (arith, nat_tests)

ltb_yes : (a b : ℕ) → b < a → ltb b a ≡ true
ltb_yes a b l = grind (arith, nat_tests)

leb_no : (a b : ℕ) → b < a → leb a b ≡ false
leb_no a b l = grind (arith, nat_tests)

-- a write of the first part: of all, and of no more than that part
at_front : (p q r : Bool) (w : Write) (ps qs rs : List Write) → p ≡ q → r ≡ false → ps ≡ qs ++ rs → cond p (w ∷ ps) ps ≡ cond q (w ∷ qs) qs ++ cond r (w ∷ rs) rs
at_front true true false w ps qs rs e f h = ap (λ (l : List Write). w ∷ l) h
at_front false false false w ps qs rs e f h = h
at_front true false r w ps qs rs e f h = absurd cc
at_front false true r w ps qs rs e f h = absurd cc
at_front p q true w ps qs rs e f h = absurd cc

-- a write after the first part, which has none any more
at_back : (p q r : Bool) (w : Write) (ps qs rs : List Write) → q ≡ false → p ≡ r → qs ≡ [] → ps ≡ qs ++ rs → cond p (w ∷ ps) ps ≡ cond q (w ∷ qs) qs ++ cond r (w ∷ rs) rs
at_back true false true w ps qs rs e f n h = ap (λ (l : List Write). w ∷ l) (h ∙ ap (λ (l : List Write). l ++ rs) n) ∙ sym (ap (λ (l : List Write). l ++ w ∷ rs) n)
at_back false false false w ps qs rs e f n h = h
at_back true q false w ps qs rs e f n h = absurd cc
at_back false q true w ps qs rs e f n h = absurd cc
at_back p true r w ps qs rs e f n h = absurd cc

-- the writes at or below `high` that pass two tests, of which the first passes all above `middle`
module _ (first second : Write → Bool) (middle high : ℕ) (up : middle ≤ high) (passes : (w : Write) → middle < w.seq → first w ≡ true) where
  abbrev at_or_below : ℕ → Write → Bool
  at_or_below n w = first w && (leb w.seq n && second w)

  abbrev in_stripe : Write → Bool
  in_stripe w = ltb middle w.seq && (leb w.seq high && second w)

  behind_fail : (least : ℕ) (ws : List Write) → middle < least → AllByRecursion (λ v. least ≤ v.seq) ws → AllByRecursion (λ v. at_or_below middle v ≡ false) ws
  behind_fail least [] l all = tt
  behind_fail least (v ∷ vs) l all =
      let behind : least ≤ v.seq = all.0 in
      let over : middle < v.seq = omega arith in
      (and_false (first v) (leb v.seq middle && second v) (ap (λ b. b && second v) (leb_no v.seq middle over)), behind_fail least vs l all.1)

  cut_by : (w : Write) (ws : List Write) (b : Bool) → leb w.seq middle ≡ b → AllByRecursion (λ v. w.seq ≤ v.seq) ws → filter (at_or_below high) ws ≡ filter (at_or_below middle) ws ++ filter in_stripe ws → filter (at_or_below high) (w ∷ ws) ≡ filter (at_or_below middle) (w ∷ ws) ++ filter in_stripe (w ∷ ws)
  cut_by w ws true e all h =
      at_front (at_or_below high w) (at_or_below middle w) (in_stripe w) w (filter (at_or_below high) ws) (filter (at_or_below middle) ws) (filter in_stripe ws)
      (ap (λ b. first w && (b && second w)) (leb_up w.seq middle high e up ∙ sym e))
      (ap (λ b. b && (leb w.seq high && second w)) (ltb_no w.seq middle e))
      h
  cut_by w ws false e all h =
      let over = above w.seq middle e in
      at_back (at_or_below high w) (at_or_below middle w) (in_stripe w) w (filter (at_or_below high) ws) (filter (at_or_below middle) ws) (filter in_stripe ws)
      (and_false (first w) (leb w.seq middle && second w) (ap (λ b. b && second w) e))
      (ap (λ b. b && (leb w.seq high && second w)) (passes w over ∙ sym (ltb_yes w.seq middle over)))
      (filter_none (at_or_below middle) ws (behind_fail w.seq ws over all))
      h

  -- are those at or below `middle`, and then those above it
  pub cut : (ws : List Write) → DontFall ws → filter (at_or_below high) ws ≡ filter (at_or_below middle) ws ++ filter in_stripe ws
  cut [] h = refl
  cut (w ∷ ws) h = cut_by w ws (leb w.seq middle) refl h.0 (cut ws h.1)

module _ (m : Operation) (laws : IsLawful m) (ws : List Write) (key : List ℕ) (rise : IsNonDecreasingBy (λ (w : Write). w.seq) ws) where
  -- the effect at a sequence is that at a lower one, and then that of the stripe between them
  pub stripe_below : (low high : ℕ) → low ≤ high → effect_on m ws key high ≡ composed m (effect_on m ws key low) (effect_within m ws key low high)
  stripe_below low high l =
      ap (effect_in_turn m) (cut (λ w. true) (λ w. touches_key key w.op) low high l (λ w o. refl) ws (dont_fall ws rise))
      ∙ turns_compose m laws (touching ws key low) (touching_within ws key low high)

  -- so the value there is what the stripe makes of the value at the lower one
  pub stripe_changes : (low high : ℕ) → low ≤ high → value_of m ws key high ≡ applied m (effect_within m ws key low high) (value_of m ws key low)
  stripe_changes low high l =
      sym (effect_gives m laws None ws key high)
      ∙ ap (λ (e : Effect). applied m e None) (stripe_below low high l)
      ∙ applied-composed m laws (effect_on m ws key low) (effect_within m ws key low high) None
      ∙ ap (applied m (effect_within m ws key low high)) (effect_gives m laws None ws key low)

  -- stripes that meet compose
  pub stripes_between : (low middle high : ℕ) → low ≤ middle → middle ≤ high → effect_within m ws key low high ≡ composed m (effect_within m ws key low middle) (effect_within m ws key middle high)
  stripes_between low middle high l r =
      ap (effect_in_turn m) (cut (λ w. ltb low w.seq) (λ w. touches_key key w.op) middle high r (λ w o. let over : low < w.seq = omega arith in ltb_yes w.seq low over) ws (dont_fall ws rise))
      ∙ turns_compose m laws (touching_within ws key low middle) (touching_within ws key middle high)

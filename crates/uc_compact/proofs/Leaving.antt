-- The rest of each key, piece and stripe.
use Rattle.std.proofs.Common.{◌≡◌, ℕ, ◌≤◌, Bool, true, false, cond, ltb, List, [], ◌∷◌, length, map, filter, refl, sym, ap, ◌∙◌, subst, arith}
use Rattle.std.specs.Prelude.{Option, Some, None, option_map}
use Rattle.std.specs.List.{AllByRecursion, cons_option}
use Rattle.uc_oper.specs.Operation.{Operation}
use Rattle.uc_oper.specs.Composition.{applied}
use Rattle.uc_oper.specs.declared.effect.Effect.TheVariants.{Set}
use Rattle.uc_run_entry.specs.declared.entry.Entry.{Entry}
use Rattle.uc_run_entry.specs.declared.entry.What.{What}
use Rattle.uc_run_entry.specs.Fragment.{Fragment}
use Rattle.uc_run_entry.specs.Lookup.{is_passing}
use Rattle.uc_run_entry.specs.Order.{IsFalling}
use Rattle.uc_run_entry.specs.Cutting.{fragments_of}
use Rattle.uc_run_entry.proofs.Pieces.{seqs_fall}
use Rattle.uc_compact.specs.Stripes.{Stripe, is_in, stripes, is_bottom}
use Rattle.uc_compact.specs.Inputs.{Compaction, AreRuns, Stand, ranges_of, keeping_of}
use Rattle.uc_compact.specs.Output.{greatest, newest_point, newest_range, effect_in, what_of, what_kept, point_kept, points_kept, seq_kept, seqs_kept, fragment_kept, fragments_kept}
use Rattle.uc_compact.specs.Values.{IsPut}
use Rattle.uc_compact.proofs.NestedLists.{all-map, all-filter}
use Rattle.uc_compact.proofs.Across.{falls_from}
use Rattle.uc_compact.proofs.Kept.{points_found, seqs_found}

at_most_one : {X : Type 0} (o : Option X) → length (cons_option o []) ≤ 1
at_most_one None = omega arith
at_most_one (Some x) = omega arith

-- what holds of each kept fragment holds stripe by stripe
turned : {X Y : Type 0} (R : X → Y → Type 0) (xs : List X) (ys : List Y) → AllByRecursion (λ x. AllByRecursion (λ y. R x y) ys) xs → AllByRecursion (λ y. AllByRecursion (λ x. R x y) xs) ys
turned R xs [] h = tt
turned {X} {Y} R xs (y ∷ ys) h = (all-map (λ x. AllByRecursion (λ z. R x z) (y ∷ ys)) (λ x. R x y) (λ x k. k.0) xs h, turned R xs ys (all-map (λ x. AllByRecursion (λ z. R x z) (y ∷ ys)) (λ x. AllByRecursion (λ z. R x z) ys) (λ x k. k.1) xs h))

module _ (m : Operation) (c : Compaction) (are : AreRuns c.inputs) (stand : Stand c.inputs c.keeps) where
  abbrev PointsOf : List ℕ → Stripe → Type 0
  PointsOf key s = filter (is_passing key (is_in s)) (points_kept m c) ≡ cons_option (point_kept m c key s) []

  pub one_point : (key : List ℕ) → AllByRecursion (λ s. length (filter (is_passing key (is_in s)) (points_kept m c)) ≤ 1) (stripes c.keeps)
  one_point key = all-map (PointsOf key) (λ s. length (filter (is_passing key (is_in s)) (points_kept m c)) ≤ 1) (λ s e. subst (λ (ps : List Entry). length ps ≤ 1) (sym e) (at_most_one (point_kept m c key s))) (stripes c.keeps) (points_found m c are stand key)

  put_value : (key : List ℕ) (seq : ℕ) (b : Bool) (v : Option (List ℕ)) → AllByRecursion (λ (p : Entry). IsPut p.what) (cons_option (cond b (option_map (λ (w : What). record { key = key; seq = seq; what = w }) (what_of (Set v) true)) None) [])
  put_value key seq true None = tt
  put_value key seq true (Some v) = (tt, tt)
  put_value key seq false v = tt

  value_point : (key : List ℕ) (s : Stripe) (b : Bool) → is_bottom (keeping_of c) s ≡ b → b ≡ true → AllByRecursion (λ (p : Entry). IsPut p.what) (cons_option (point_kept m c key s) [])
  value_point key s b e t =
      subst (λ bottom. AllByRecursion (λ (p : Entry). IsPut p.what) (cons_option (cond (ltb 0 (newest_point c key s)) (option_map (λ (w : What). record { key = key; seq = newest_point c key s; what = w }) (what_kept m bottom (effect_in m c key s) (ltb (newest_point c key s) (newest_range c key s)))) None) []))
      (sym (e ∙ t)) (put_value key (newest_point c key s) (ltb 0 (newest_point c key s)) (applied m (effect_in m c key s) None))

  pub only_values : (key : List ℕ) → AllByRecursion (λ s. is_bottom (keeping_of c) s ≡ true → AllByRecursion (λ (p : Entry). IsPut p.what) (filter (is_passing key (is_in s)) (points_kept m c))) (stripes c.keeps)
  only_values key = all-map (PointsOf key) (λ s. is_bottom (keeping_of c) s ≡ true → AllByRecursion (λ (p : Entry). IsPut p.what) (filter (is_passing key (is_in s)) (points_kept m c))) (λ s e bottom. subst (λ (ps : List Entry). AllByRecursion (λ (p : Entry). IsPut p.what) ps) (sym e) (value_point key s (is_bottom (keeping_of c) s) refl bottom)) (stripes c.keeps) (points_found m c are stand key)

  -- the sequences of each fragment
  abbrev SeqsOf : List ℕ → Stripe → Type 0
  SeqsOf ns s = filter (is_in s) (seqs_kept (keeping_of c) ns) ≡ cons_option (seq_kept (keeping_of c) ns s) []

  module _ (P : List ℕ → Stripe → Type 0) (each : (ns : List ℕ) (s : Stripe) → SeqsOf ns s → P (seqs_kept (keeping_of c) ns) s) where
    every : (fs : List Fragment) → AllByRecursion (λ (f : Fragment). IsFalling f.seqs) fs → AllByRecursion (λ (f : Fragment). AllByRecursion (P f.seqs) (stripes c.keeps)) (map (fragment_kept (keeping_of c)) fs)
    every [] h = tt
    every (f ∷ fs) h = (all-map (SeqsOf f.seqs) (P (seqs_kept (keeping_of c) f.seqs)) (each f.seqs) (stripes c.keeps) (seqs_found m c are stand f.seqs (falls_from f.seqs h.0)), every fs h.1)

    pub by_stripe : AllByRecursion (λ s. AllByRecursion (λ (f : Fragment). P f.seqs s) (fragments_kept c)) (stripes c.keeps)
    by_stripe = turned (λ (f : Fragment) s. P f.seqs s) (fragments_kept c) (stripes c.keeps) (all-filter (λ (f : Fragment). AllByRecursion (P f.seqs) (stripes c.keeps)) (λ (f : Fragment). ltb 0 (length f.seqs)) (map (fragment_kept (keeping_of c)) (fragments_of (ranges_of c.inputs))) (every (fragments_of (ranges_of c.inputs)) (seqs_fall (ranges_of c.inputs))))

  pub one_seq : AllByRecursion (λ s. AllByRecursion (λ (f : Fragment). length (filter (is_in s) f.seqs) ≤ 1) (fragments_kept c)) (stripes c.keeps)
  one_seq = by_stripe (λ ns s. length (filter (is_in s) ns) ≤ 1) (λ ns s e. subst (λ (ks : List ℕ). length ks ≤ 1) (sym e) (at_most_one (seq_kept (keeping_of c) ns s)))

  none_at_bottom : (ns : List ℕ) (s : Stripe) (b : Bool) → is_bottom (keeping_of c) s ≡ b → b ≡ true → cons_option (seq_kept (keeping_of c) ns s) [] ≡ []
  none_at_bottom ns s b e t = ap (λ bottom. cons_option (cond bottom None (cond (ltb 0 (greatest (filter (is_in s) ns))) (Some (greatest (filter (is_in s) ns))) None)) []) (e ∙ t)

  swap_all : (fs : List Fragment) (s : Stripe) → AllByRecursion (λ (f : Fragment). is_bottom (keeping_of c) s ≡ true → filter (is_in s) f.seqs ≡ []) fs → is_bottom (keeping_of c) s ≡ true → AllByRecursion (λ (f : Fragment). filter (is_in s) f.seqs ≡ []) fs
  swap_all fs s h bottom = all-map (λ (f : Fragment). is_bottom (keeping_of c) s ≡ true → filter (is_in s) f.seqs ≡ []) (λ f. filter (is_in s) f.seqs ≡ []) (λ f k. k bottom) fs h

  pub no_seqs : AllByRecursion (λ s. is_bottom (keeping_of c) s ≡ true → AllByRecursion (λ (f : Fragment). filter (is_in s) f.seqs ≡ []) (fragments_kept c)) (stripes c.keeps)
  no_seqs = all-map (λ s. AllByRecursion (λ (f : Fragment). is_bottom (keeping_of c) s ≡ true → filter (is_in s) f.seqs ≡ []) (fragments_kept c)) (λ s. is_bottom (keeping_of c) s ≡ true → AllByRecursion (λ (f : Fragment). filter (is_in s) f.seqs ≡ []) (fragments_kept c)) (λ s h. swap_all (fragments_kept c) s h) (stripes c.keeps)
      (by_stripe (λ ns s. is_bottom (keeping_of c) s ≡ true → filter (is_in s) ns ≡ []) (λ ns s e bottom. e ∙ none_at_bottom ns s (is_bottom (keeping_of c) s) refl bottom))

-- A key's points are chosen by its own points and the range deletions over it.
use Rattle.std.proofs.Common.{◌≡◌, ◌≢◌, ℕ, ◌<◌, ◌≤◌, Bool, true, false, cond, ltb, List, [], ◌∷◌, ◌++◌, filter, refl, sym, ap, ◌∙◌, subst, arith}
use Rattle.std.specs.Prelude.{◌&&◌, Option, None, option_map, filter_map}
use Rattle.std.specs.List.{AllByRecursion, flat_map, cons_option}
use Rattle.std.specs.List.Sorted.{IsStrictlySortedBy}
use Rattle.std.specs.declared.cmp.Ordering.TheVariants.{Less}
use Rattle.std.specs.Ordering.{nat_cmp}
use Rattle.std.proofs.lemmas.Bool.Decides.{nat_tests}
use Rattle.uc_bytes.specs.Bytes.{same_bytes}
use Rattle.uc_oper.specs.Operation.{Operation, IsLawful}
use Rattle.uc_run_entry.specs.declared.entry.Entry.{Entry}
use Rattle.uc_run_entry.specs.declared.entry.What.{What}
use Rattle.uc_run_entry.specs.Run.{Contents}
use Rattle.uc_run_entry.specs.Lookup.{is_passing, above_newest}
use Rattle.uc_run_entry.proofs.Points.{PointsFall as Fall}
use Rattle.uc_run_entry.specs.Cutting.{fragments_of}
use Rattle.uc_compact.specs.Stripes.{Stripe, is_in, stripes, is_bottom}
use Rattle.uc_compact.specs.Inputs.{Compaction, AreRuns, Stand, points_of, ranges_of, keeping_of}
use Rattle.uc_compact.specs.Output.{greatest, newest_point, newest_range, what_kept, point_kept, keys_of, points_kept}
use Rattle.uc_compact.specs.Choice.{point_for, points_for, points_named, seqs_over, PointsFall, AreOfOneKey}
use Rattle.uc_compact.proofs.NestedLists.{all-map, all-filter, all-passed}
use Rattle.uc_compact.proofs.Effects.{seqs_of, HoldsWithin, all_points, all_seqs, effect_of_runs}
use Rattle.uc_compact.proofs.Across.{points_in, seqs_in, points_fall, points_apart, falling_from}
use Rattle.uc_compact.proofs.Kept.{ranges_seqs, cut_seqs, all_seqs_fall}

-- a test after another
passing : (key : List ℕ) (test : ℕ → Bool) (ps : List Entry) → filter (λ (p : Entry). test p.seq) (points_named key ps) ≡ filter (is_passing key test) ps
passing key test [] = refl
passing key test (p ∷ ps) = put (same_bytes p.key key) (test p.seq) (passing key test ps)
  where
    put : (a b : Bool) → filter (λ (p : Entry). test p.seq) (points_named key ps) ≡ filter (is_passing key test) ps → filter (λ (p : Entry). test p.seq) (cond a (p ∷ points_named key ps) (points_named key ps)) ≡ cond (test p.seq && a) (p ∷ filter (is_passing key test) ps) (filter (is_passing key test) ps)
    put true b e = ap (λ (qs : List Entry). cond (test p.seq) (p ∷ qs) qs) e ∙ same (test p.seq)
      where
        same : (c : Bool) → cond c (p ∷ filter (is_passing key test) ps) (filter (is_passing key test) ps) ≡ cond (c && true) (p ∷ filter (is_passing key test) ps) (filter (is_passing key test) ps)
        same true = refl
        same false = refl
    put false b e = e ∙ same (test p.seq)
      where
        same : (c : Bool) → filter (is_passing key test) ps ≡ cond (c && false) (p ∷ filter (is_passing key test) ps) (filter (is_passing key test) ps)
        same true = refl
        same false = refl

filter_map-same : {X Y : Type 0} (f g : X → Option Y) → ((x : X) → f x ≡ g x) → (xs : List X) → filter_map f xs ≡ filter_map g xs
filter_map-same f g same [] = refl
filter_map-same {X} {Y} f g same (x ∷ xs) = ap (λ (o : Option Y). cons_option o (filter_map f xs)) (same x) ∙ ap (cons_option (g x)) (filter_map-same f g same xs)

flat_map-same : {X Y : Type 0} (f g : X → List Y) → ((x : X) → f x ≡ g x) → (xs : List X) → flat_map f xs ≡ flat_map g xs
flat_map-same f g same [] = refl
flat_map-same {X} {Y} f g same (x ∷ xs) = ap (λ (ys : List Y). ys ++ flat_map f xs) (same x) ∙ ap (λ (ys : List Y). g x ++ ys) (flat_map-same f g same xs)

number_less : (a b : ℕ) → a < b → nat_cmp a b ≡ Less
number_less a b lt = grind (arith, nat_tests)

sorted_from : (ps : List Entry) → Fall ps → PointsFall ps
unfolding IsStrictlySortedBy
sorted_from [] h = tt
sorted_from (p ∷ ps) h = (all-map (λ (q : Entry). q.seq < p.seq) (λ q. nat_cmp q.seq p.seq ≡ Less) (λ q lt. number_less q.seq p.seq lt) ps h.0, sorted_from ps h.1)

module _ (m : Operation) (c : Compaction) (are : AreRuns c.inputs) (stand : Stand c.inputs c.keeps) where
  over_is : (key : List ℕ) → seqs_over key (fragments_of (ranges_of c.inputs)) ≡ seqs_of key c.inputs
  over_is key = cut_seqs m c are stand key

  chosen_in : IsLawful m → (key : List ℕ) (s : Stripe) → point_kept m c key s ≡ point_for m (is_bottom (keeping_of c) s) key (filter (λ (p : Entry). is_in s p.seq) (points_named key (points_of c.inputs))) (filter (is_in s) (seqs_over key (fragments_of (ranges_of c.inputs))))
  chosen_in laws key s =
      ap (λ effect. cond (ltb 0 (newest_point c key s)) (option_map (λ (w : What). record { key = key; seq = newest_point c key s; what = w }) (what_kept m (is_bottom (keeping_of c) s) effect (ltb (newest_point c key s) (newest_range c key s)))) None) (effect_of_runs m laws key s c.inputs are stand.newest_first)
      ∙ ap (λ t. cond (ltb 0 (newest_point c key s)) (option_map (λ (w : What). record { key = key; seq = newest_point c key s; what = w }) (what_kept m (is_bottom (keeping_of c) s) (above_newest m (points_in key (is_in s) c.inputs) (seqs_in key (is_in s) c.inputs)) (ltb (newest_point c key s) t))) None) (ap greatest (ranges_seqs key (is_in s) (flat_map (λ (r : Contents). r.fragments) c.inputs)))
      ∙ ap (λ (ps : List Entry). point_for m (is_bottom (keeping_of c) s) key ps (seqs_in key (is_in s) c.inputs)) (sym (passing key (is_in s) (points_of c.inputs)))
      ∙ ap (λ (ns : List ℕ). point_for m (is_bottom (keeping_of c) s) key (filter (λ (p : Entry). is_in s p.seq) (points_named key (points_of c.inputs))) (filter (is_in s) ns)) (sym (over_is key))

  pub chosen_of : IsLawful m → (key : List ℕ) → filter_map (point_kept m c key) (stripes c.keeps) ≡ points_for m (keeping_of c) key (points_named key (points_of c.inputs)) (seqs_over key (fragments_of (ranges_of c.inputs)))
  chosen_of laws key = filter_map-same (point_kept m c key) (λ s. point_for m (is_bottom (keeping_of c) s) key (filter (λ (p : Entry). is_in s p.seq) (points_named key (points_of c.inputs))) (filter (is_in s) (seqs_over key (fragments_of (ranges_of c.inputs))))) (chosen_in laws key) (stripes c.keeps)

  positive : AllByRecursion (HoldsWithin (λ n. 0 < n)) c.inputs
  positive = each c.inputs are
    where
      each : (rs : List Contents) → AreRuns rs → AllByRecursion (HoldsWithin (λ n. 0 < n)) rs
      each [] are = tt
      each (r ∷ rs) are = ((λ n within. let one : 1 ≤ r.low = are.0.from_one in let le : r.low ≤ n = within.0 in omega (arith, one, le)), each rs are.1)

  -- those of a key are those that pass where all sequences do
  named_is : (key : List ℕ) → points_named key (points_of c.inputs) ≡ points_in key (λ _. true) c.inputs
  named_is key = refl

  pub of_one_key : (key : List ℕ) → AreOfOneKey (points_named key (points_of c.inputs)) (seqs_over key (fragments_of (ranges_of c.inputs)))
  of_one_key key = subst (AreOfOneKey (points_named key (points_of c.inputs))) (sym (over_is key)) (record {
    points_fall = sorted_from (points_in key (λ _. true) c.inputs) (points_fall key (λ _. true) c.inputs are stand.newest_first);
    seqs_fall = falling_from (seqs_of key c.inputs) (all_seqs_fall m c are stand key);
    points_from_one = all-filter (λ (p : Entry). 0 < p.seq) (λ p. same_bytes p.key key) (points_of c.inputs) (all_points (λ n. 0 < n) c.inputs are positive);
    seqs_from_one = all_seqs (λ n. 0 < n) key c.inputs are positive;
    apart = subst (λ (ns : List ℕ). AllByRecursion (λ (p : Entry). AllByRecursion (λ n. n ≢ p.seq) ns) (points_in key (λ _. true) c.inputs)) (all-passed (seqs_of key c.inputs)) (points_apart key (λ _. true) c.inputs are stand.newest_first);
  })

  pub chosen : IsLawful m → points_kept m c ≡ flat_map (λ key. points_for m (keeping_of c) key (points_named key (points_of c.inputs)) (seqs_over key (fragments_of (ranges_of c.inputs)))) (keys_of c)
  chosen laws = flat_map-same (λ key. filter_map (point_kept m c key) (stripes c.keeps)) (λ key. points_for m (keeping_of c) key (points_named key (points_of c.inputs)) (seqs_over key (fragments_of (ranges_of c.inputs)))) (chosen_of laws) (keys_of c)

-- The effect of a stripe's writes on a key, in terms of the runs' points and fragments.
use Rattle.std.proofs.Common.{◌≡◌, ℕ, ◌<◌, ◌≤◌, true, false, cond, leb, ltb, List, [], ◌∷◌, ◌++◌, filter, refl, sym, ap, ◌∙◌, arith}
use Rattle.std.specs.Prelude.{◌&&◌, None}
use Rattle.std.specs.List.{AllByRecursion, flat_map}
use Rattle.std.proofs.lemmas.Bool.Decides.{nat_tests}
use Rattle.std.proofs.lemmas.List.{append-nil}
use Rattle.std.proofs.lemmas.List.Elements.{filter-append}
use Rattle.std.proofs.lemmas.Grind.{flat_map-append}
use Rattle.uc_oper.specs.Operation.{Operation, IsLawful}
use Rattle.uc_oper.specs.Composition.{composed, composed_assoc}
use Rattle.uc_oper.specs.declared.effect.Effect.{Effect}
use Rattle.uc_oper.specs.declared.effect.Effect.TheVariants.{Keep, Set}
use Rattle.uc_bytes.specs.declared.write.Write.{Write}
use Rattle.uc_model.specs.Meaning.{touches_key, effect_in_turn, effect_within}
use Rattle.uc_model.proofs.MeaningLaws.{turns_compose}
use Rattle.uc_run_entry.specs.declared.entry.Entry.{Entry}
use Rattle.uc_run_entry.specs.Fragment.{Fragment}
use Rattle.uc_run_entry.specs.Run.{Contents, IsRun, IsWithin, IsWhole, covers}
use Rattle.uc_run_entry.specs.PlainList.{plain_list}
use Rattle.uc_run_entry.specs.Lookup.{what_effect, points_effect, is_passing, above_newest}
use Rattle.uc_run_entry.proofs.Lookup.{found_within}
use Rattle.uc_compact.specs.Stripes.{Stripe, is_in}
use Rattle.uc_compact.specs.Inputs.{AreRuns, AreNewestFirst, writes_of, points_of}
use Rattle.uc_compact.proofs.NestedLists.{all-map, all-filter, all-flat_map}

-- ---- points and range deletions of older and newer runs

module _ (m : Operation) where
  pub points_effect-append : (before : Effect) (newer older : List Entry) → points_effect m before (newer ++ older) ≡ points_effect m (points_effect m before older) newer
  points_effect-append before [] older = refl
  points_effect-append before (p ∷ ps) older = ap (λ (e : Effect). composed m e (what_effect p.what)) (points_effect-append before ps older)

  pub continued : IsLawful m → (older before : Effect) (ps : List Entry) → composed m older (points_effect m before ps) ≡ points_effect m (composed m older before) ps
  continued laws older before [] = refl
  continued laws older before (p ∷ ps) =
      sym (composed_assoc m laws older (points_effect m before ps) (what_effect p.what))
      ∙ ap (λ (e : Effect). composed m e (what_effect p.what)) (continued laws older before ps)

pub none_above : (n : ℕ) (ps : List Entry) → AllByRecursion (λ p. p.seq < n) ps → filter (λ (p : Entry). ltb n p.seq) ps ≡ []
none_above n [] h = refl
none_above n (p ∷ ps) h =
    let lt : p.seq < n = h.0 in
    let e : ltb n p.seq ≡ false = grind (arith, nat_tests) in
    ap (λ b. cond b (p ∷ filter (λ (q : Entry). ltb n q.seq) ps) (filter (λ (q : Entry). ltb n q.seq) ps)) e ∙ none_above n ps h.1

pub all_above : (n : ℕ) (ps : List Entry) → AllByRecursion (λ p. n < p.seq) ps → filter (λ (p : Entry). ltb n p.seq) ps ≡ ps
all_above n [] h = refl
all_above n (p ∷ ps) h =
    let lt : n < p.seq = h.0 in
    let e : ltb n p.seq ≡ true = grind (arith, nat_tests) in
    ap (λ b. cond b (p ∷ filter (λ (q : Entry). ltb n q.seq) ps) (filter (λ (q : Entry). ltb n q.seq) ps)) e ∙ ap (λ (qs : List Entry). p ∷ qs) (all_above n ps h.1)

-- what older points and range deletions do, and then newer ones
pub above_newest-append : (m : Operation) → IsLawful m → (newer older : List Entry) (over under : List ℕ) → AllByRecursion (λ p. AllByRecursion (λ n. n < p.seq) under) newer → AllByRecursion (λ n. AllByRecursion (λ p. p.seq < n) older) over →
    above_newest m (newer ++ older) (over ++ under) ≡ composed m (above_newest m older under) (above_newest m newer over)
above_newest-append m laws newer older (n ∷ ns) under above below =
    ap (points_effect m (Set None)) (filter-append (λ (p : Entry). ltb n p.seq) newer older ∙ ap (λ (ps : List Entry). filter (λ (p : Entry). ltb n p.seq) newer ++ ps) (none_above n older below.0) ∙ append-nil (filter (λ (p : Entry). ltb n p.seq) newer))
    ∙ sym (continued m laws (above_newest m older under) (Set None) (filter (λ (p : Entry). ltb n p.seq) newer))
above_newest-append m laws newer older [] [] above below =
    points_effect-append m Keep newer older
    ∙ sym (continued m laws (points_effect m Keep older) Keep newer)
above_newest-append m laws newer older [] (o ∷ os) above below =
    ap (points_effect m (Set None)) (filter-append (λ (p : Entry). ltb o p.seq) newer older ∙ ap (λ (ps : List Entry). ps ++ filter (λ (p : Entry). ltb o p.seq) older) (all_above o newer (all-map (λ p. AllByRecursion (λ n. n < p.seq) (o ∷ os)) (λ p. o < p.seq) (λ p h. h.0) newer above)))
    ∙ points_effect-append m (Set None) newer (filter (λ (p : Entry). ltb o p.seq) older)
    ∙ sym (continued m laws (points_effect m (Set None) (filter (λ (p : Entry). ltb o p.seq) older)) Keep newer)

-- ---- several runs

-- the sequences of the range deletions over a key, those of a newer run first
abbrev pub seqs_of : List ℕ → List Contents → List ℕ
seqs_of key runs = flat_map (λ (f : Fragment). f.seqs) (filter (λ f. covers f key) (flat_map (λ (r : Contents). r.fragments) runs))

pub seqs_of-cons : (key : List ℕ) (r : Contents) (rs : List Contents) → seqs_of key (r ∷ rs) ≡ flat_map (λ (f : Fragment). f.seqs) (filter (λ f. covers f key) r.fragments) ++ seqs_of key rs
seqs_of-cons key r rs =
    ap (flat_map (λ (f : Fragment). f.seqs)) (filter-append (λ f. covers f key) r.fragments (flat_map (λ (r : Contents). r.fragments) rs))
    ∙ flat_map-append (λ (f : Fragment). f.seqs) (filter (λ f. covers f key) r.fragments) (filter (λ f. covers f key) (flat_map (λ (r : Contents). r.fragments) rs))

-- what holds of all sequences within a run's range holds of its points' and of its fragments'
module _ (P : ℕ → Type 0) where
  abbrev pub HoldsWithin : Contents → Type 0
  HoldsWithin r = (n : ℕ) → IsWithin r.low r.high n → P n

  pub run_points : (r : Contents) → IsRun r.low r.high r.points r.fragments → HoldsWithin r → AllByRecursion (λ p. P p.seq) r.points
  run_points r is_run holds = all-map (λ (p : Entry). IsWithin r.low r.high p.seq) (λ p. P p.seq) (λ p within. holds p.seq within) r.points is_run.points_within

  pub run_fragments : (r : Contents) → IsRun r.low r.high r.points r.fragments → HoldsWithin r → AllByRecursion (λ f. AllByRecursion P f.seqs) r.fragments
  run_fragments r is_run holds = all-map (IsWhole r.low r.high) (λ (f : Fragment). AllByRecursion P f.seqs) (λ f whole. all-map (IsWithin r.low r.high) P holds f.seqs whole.2) r.fragments is_run.whole

  pub all_points : (runs : List Contents) → AreRuns runs → AllByRecursion HoldsWithin runs → AllByRecursion (λ p. P p.seq) (points_of runs)
  all_points runs are holds = all-flat_map (λ (r : Contents). r.points) (λ p. P p.seq) runs (each runs are holds)
    where
      each : (rs : List Contents) → AreRuns rs → AllByRecursion HoldsWithin rs → AllByRecursion (λ (r : Contents). AllByRecursion (λ p. P p.seq) r.points) rs
      each [] are holds = tt
      each (r ∷ rs) are holds = (run_points r are.0 holds.0, each rs are.1 holds.1)

  pub all_fragments : (runs : List Contents) → AreRuns runs → AllByRecursion HoldsWithin runs → AllByRecursion (λ f. AllByRecursion P f.seqs) (flat_map (λ (r : Contents). r.fragments) runs)
  all_fragments runs are holds = all-flat_map (λ (r : Contents). r.fragments) (λ f. AllByRecursion P f.seqs) runs (each runs are holds)
    where
      each : (rs : List Contents) → AreRuns rs → AllByRecursion HoldsWithin rs → AllByRecursion (λ (r : Contents). AllByRecursion (λ f. AllByRecursion P f.seqs) r.fragments) rs
      each [] are holds = tt
      each (r ∷ rs) are holds = (run_fragments r are.0 holds.0, each rs are.1 holds.1)

  pub all_seqs : (key : List ℕ) (runs : List Contents) → AreRuns runs → AllByRecursion HoldsWithin runs → AllByRecursion P (seqs_of key runs)
  all_seqs key runs are holds = all-flat_map (λ (f : Fragment). f.seqs) P (filter (λ f. covers f key) (flat_map (λ (r : Contents). r.fragments) runs)) (all-filter (λ f. AllByRecursion P f.seqs) (λ f. covers f key) (flat_map (λ (r : Contents). r.fragments) runs) (all_fragments runs are holds))

-- the runs after a newer one have lower sequence numbers
pub below_newer : (low : ℕ) (runs : List Contents) → AllByRecursion (λ r. r.high < low) runs → AllByRecursion (HoldsWithin (λ n. n < low)) runs
below_newer low runs h = all-map (λ (r : Contents). r.high < low) (HoldsWithin (λ n. n < low)) (λ r lt n within. let le : n ≤ r.high = within.1 in omega (arith, lt, le)) runs h

module _ (m : Operation) (laws : IsLawful m) (key : List ℕ) (s : Stripe) where
  effect_within-append : (ws vs : List Write) → effect_within m (ws ++ vs) key s.above s.upto ≡ composed m (effect_within m ws key s.above s.upto) (effect_within m vs key s.above s.upto)
  effect_within-append ws vs =
      ap (effect_in_turn m) (filter-append (λ (w : Write). ltb s.above w.seq && (leb w.seq s.upto && touches_key key w.op)) ws vs)
      ∙ turns_compose m laws (filter (λ (w : Write). ltb s.above w.seq && (leb w.seq s.upto && touches_key key w.op)) ws) (filter (λ (w : Write). ltb s.above w.seq && (leb w.seq s.upto && touches_key key w.op)) vs)

  abbrev points : List Contents → List Entry
  points runs = filter (is_passing key (is_in s)) (points_of runs)

  abbrev seqs : List Contents → List ℕ
  seqs runs = filter (is_in s) (seqs_of key runs)

  one_over : (r : Contents) → List ℕ
  one_over r = filter (is_in s) (flat_map (λ (f : Fragment). f.seqs) (filter (λ f. covers f key) r.fragments))

  pub effect_of_runs : (runs : List Contents) → AreRuns runs → AreNewestFirst runs → effect_within m (writes_of runs) key s.above s.upto ≡ above_newest m (points runs) (seqs runs)
  unfolding one_over
  effect_of_runs [] are order = refl
  effect_of_runs (r ∷ rs) are order =
      let low : (n : ℕ) → IsWithin r.low r.high n → r.low ≤ n = (λ n within. within.0) in
      let mine : AllByRecursion (λ (p : Entry). r.low ≤ p.seq) (filter (is_passing key (is_in s)) r.points) = all-filter (λ (p : Entry). r.low ≤ p.seq) (is_passing key (is_in s)) r.points (run_points (λ n. r.low ≤ n) r are.0 low) in
      let over : AllByRecursion (λ n. r.low ≤ n) (one_over r) = all-filter (λ n. r.low ≤ n) (is_in s) (flat_map (λ (f : Fragment). f.seqs) (filter (λ f. covers f key) r.fragments)) (all-flat_map (λ (f : Fragment). f.seqs) (λ n. r.low ≤ n) (filter (λ f. covers f key) r.fragments) (all-filter (λ f. AllByRecursion (λ n. r.low ≤ n) f.seqs) (λ f. covers f key) r.fragments (run_fragments (λ n. r.low ≤ n) r are.0 low))) in
      let under : AllByRecursion (λ n. n < r.low) (seqs rs) = all-filter (λ n. n < r.low) (is_in s) (seqs_of key rs) (all_seqs (λ n. n < r.low) key rs are.1 (below_newer r.low rs order.0)) in
      let theirs : AllByRecursion (λ (p : Entry). p.seq < r.low) (points rs) = all-filter (λ (p : Entry). p.seq < r.low) (is_passing key (is_in s)) (points_of rs) (all_points (λ n. n < r.low) rs are.1 (below_newer r.low rs order.0)) in
      effect_within-append (writes_of rs) (plain_list r)
      ∙ ap (λ (e : Effect). composed m e (effect_within m (plain_list r) key s.above s.upto)) (effect_of_runs rs are.1 order.1)
      ∙ ap (composed m (above_newest m (points rs) (seqs rs))) (found_within m r are.0 key s.above s.upto)
      ∙ sym (above_newest-append m laws (filter (is_passing key (is_in s)) r.points) (points rs) (one_over r) (seqs rs)
      (all-map (λ (p : Entry). r.low ≤ p.seq) (λ p. AllByRecursion (λ n. n < p.seq) (seqs rs)) (λ p le. all-map (λ n. n < r.low) (λ n. n < p.seq) (λ n lt. omega (arith, le, lt)) (seqs rs) under) (filter (is_passing key (is_in s)) r.points) mine)
      (all-map (λ n. r.low ≤ n) (λ n. AllByRecursion (λ p. p.seq < n) (points rs)) (λ n le. all-map (λ (p : Entry). p.seq < r.low) (λ p. p.seq < n) (λ p lt. omega (arith, le, lt)) (points rs) theirs) (one_over r) over))
      ∙ ap (λ (ps : List Entry). above_newest m ps (one_over r ++ seqs rs)) (sym (filter-append (is_passing key (is_in s)) r.points (points_of rs)))
      ∙ ap (above_newest m (points (r ∷ rs))) (sym (ap (filter (is_in s)) (seqs_of-cons key r rs) ∙ filter-append (is_in s) (flat_map (λ (f : Fragment). f.seqs) (filter (λ f. covers f key) r.fragments)) (seqs_of key rs)))

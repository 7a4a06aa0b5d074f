-- Reads at kept sequences, and above all, see no difference.
use Rattle.std.proofs.Common.{◌≡◌, ℕ, zero, suc, ◌<◌, ◌≤◌, Bool, true, false, cond, leb, ltb, List, [], ◌∷◌, ◌++◌, Contains, map, filter, inl, inr, refl, sym, ap, ◌∙◌, subst, arith}
use Rattle.std.specs.Prelude.{◌&&◌, ◌-◌, ◌^◌, Option, Some, None, option_map}
use Rattle.std.specs.List.{AllByRecursion, flat_map, cons_option}
use Rattle.std.specs.List.Sorted.{IsNonDecreasingBy}
use Rattle.std.proofs.lemmas.Bool.Decides.{nat_tests}
use Rattle.uc_oper.specs.Operation.{Operation, IsLawful}
use Rattle.uc_oper.specs.Composition.{applied, composed}
use Rattle.uc_oper.specs.declared.effect.Effect.{Effect}
use Rattle.uc_oper.specs.declared.effect.Effect.TheVariants.{Keep}
use Rattle.uc_bytes.specs.declared.write.Write.{Write}
use Rattle.uc_model.specs.Meaning.{touches_key, touching, effect_in_turn, effect_on, effect_within, value_of}
use Rattle.uc_model.proofs.MeaningLaws.{effect_gives, later_keep}
use Rattle.uc_model.proofs.Stripes.{stripe_below, stripe_changes}
use Rattle.uc_run_entry.specs.declared.entry.Entry.{Entry}
use Rattle.uc_run_entry.specs.declared.entry.What.{What}
use Rattle.uc_run_entry.specs.Fragment.{Fragment}
use Rattle.uc_run_entry.specs.Run.{Contents, IsRun, IsWithin, covers}
use Rattle.uc_run_entry.specs.PlainList.{point_write, fragment_writes, plain_list}
use Rattle.uc_run_entry.specs.Lookup.{is_passing, above_newest}
use Rattle.uc_run_entry.proofs.BySeq.{Ascends, ascends-by_seq, ascends_by_place}
use Rattle.uc_run_entry.proofs.Lookup.{found_within, all_moved}
use Rattle.uc_compact.specs.Stripes.{Stripe, is_in, stripes_above, stripes, has_bottom, is_bottom}
use Rattle.uc_compact.specs.Inputs.{Compaction, AreRuns, AreNewestFirst, Stand, high_of, low_of, writes_of, points_of, keeping_of}
use Rattle.uc_compact.specs.Output.{greatest, newest_point, newest_range, effect_in, what_kept, point_kept, points_kept, seq_kept, fragments_kept, output_of}
use Rattle.uc_compact.specs.Reading.{IsReadAt, KeepsReads, KeepsStripes}
use Rattle.uc_compact.proofs.NestedLists.{all-append, all-map, all-mapped, all-filter, all-flat_map}
use Rattle.uc_compact.proofs.Effects.{seqs_of, HoldsWithin, run_points, run_fragments, all_points, all_seqs, effect_of_runs}
use Rattle.uc_compact.proofs.Choosing.{stands, stands_alone}
use Rattle.uc_compact.proofs.Across.{points_in, seqs_in, points_fall, seqs_fall, points_apart}
use Rattle.uc_compact.proofs.Parted.{Rise, later_keeps, rise_on}
use Rattle.uc_compact.proofs.Kept.{ranges_seqs, points_found, cover_found}
use Rattle.uc_compact.proofs.OutputRun.{all_within, high_below, low_from_one, output_is_run}

-- ---- from stripe to stripe

all-front : {X : Type 0} (P : X → Type 0) (xs ys : List X) → AllByRecursion P (xs ++ ys) → AllByRecursion P xs
all-front P [] ys h = tt
all-front P (x ∷ xs) ys h = (h.0, all-front P xs ys h.1)

all-back : {X : Type 0} (P : X → Type 0) (xs ys : List X) → AllByRecursion P (xs ++ ys) → AllByRecursion P ys
all-back P [] ys h = h
all-back P (x ∷ xs) ys h = all-back P xs ys h.1

module _ {X : Type 0} (f g : ℕ → X) where
  -- what is equal at the begin of a stripe is equal at its end
  abbrev pub StaysOver : Stripe → Type 0
  StaysOver s = s.above ≤ s.upto → f s.above ≡ g s.above → f s.upto ≡ g s.upto

  at_keeps : (above : ℕ) (keeps : List ℕ) → f above ≡ g above → AllByRecursion (λ k. above ≤ k) keeps → Rise keeps → AllByRecursion StaysOver (stripes_above above keeps) → AllByRecursion (λ k. f k ≡ g k) keeps
  at_keeps above [] e le rise steps = tt
  at_keeps above (keep ∷ keeps) e le rise steps =
      let here : f keep ≡ g keep = (all-back StaysOver (stripes_above keep keeps) ((record { above = above; upto = keep }) ∷ []) steps).0 le.0 e in
      (here, at_keeps keep keeps here (later_keeps keep keeps rise) (rise_on keep keeps rise) (all-front StaysOver (stripes_above keep keeps) ((record { above = above; upto = keep }) ∷ []) steps))

  abbrev top : ℕ
  top = 2 ^ 56 - 1

  -- and somewhere at or above all sequences
  EndsEqual : Type 0
  EndsEqual = (n : ℕ) × ((2 ^ 56 - 1 ≤ n) × (f n ≡ g n))

  top_by : (above : ℕ) (b : Bool) → leb above (2 ^ 56 - 1) ≡ b → f above ≡ g above → (above ≤ 2 ^ 56 - 1 → f above ≡ g above → f (2 ^ 56 - 1) ≡ g (2 ^ 56 - 1)) → EndsEqual
  unfolding EndsEqual
  top_by above true t e step = (2 ^ 56 - 1, (omega arith, step (grind (arith, nat_tests)) e))
  top_by above false t e step = (above, (grind (arith, nat_tests), e))

  at_top : (above : ℕ) (keeps : List ℕ) → f above ≡ g above → AllByRecursion (λ k. above ≤ k) keeps → Rise keeps → AllByRecursion StaysOver (stripes_above above keeps) → EndsEqual
  at_top above [] e le rise steps = top_by above (leb above (2 ^ 56 - 1)) refl e steps.0
  at_top above (keep ∷ keeps) e le rise steps =
      at_top keep keeps ((all-back StaysOver (stripes_above keep keeps) ((record { above = above; upto = keep }) ∷ []) steps).0 le.0 e) (later_keeps keep keeps rise) (rise_on keep keeps rise) (all-front StaysOver (stripes_above keep keeps) ((record { above = above; upto = keep }) ∷ []) steps)

  contained : {Y : Type 0} (P : Y → Type 0) (xs : List Y) (x : Y) → AllByRecursion P xs → Contains xs x → P x
  contained P [] x h (i, lt, e) = absurd (omega (arith, lt))
  contained P (y ∷ ys) x h (zero, lt, e) = subst P e h.0
  contained P (y ∷ ys) x h (suc i, lt, e) = contained P ys x h.1 (i, omega (arith, lt), e)

  all_zero : (keeps : List ℕ) → AllByRecursion (λ k. 0 ≤ k) keeps
  all_zero [] = tt
  all_zero (k ∷ ks) = (omega arith, all_zero ks)

  pub equal_at : (keeps : List ℕ) → Rise keeps → f 0 ≡ g 0 → AllByRecursion StaysOver (stripes keeps) → (high : ℕ) → high ≤ 2 ^ 56 - 1 → ((a b : ℕ) → high ≤ a → high ≤ b → f a ≡ f b) → ((a b : ℕ) → high ≤ a → high ≤ b → g a ≡ g b) →
      (at : ℕ) → IsReadAt keeps high at → f at ≡ g at
  unfolding EndsEqual
  equal_at keeps rise base steps high top levels levels' at (inl kept) = contained (λ k. f k ≡ g k) keeps at (at_keeps 0 keeps base (all_zero keeps) rise steps) kept
  equal_at keeps rise base steps high top levels levels' at (inr above) =
      let end : (n : ℕ) × ((2 ^ 56 - 1 ≤ n) × (f n ≡ g n)) = at_top 0 keeps base (all_zero keeps) rise steps in
      let up : 2 ^ 56 - 1 ≤ end.0 = end.1.0 in
      let reaches : high ≤ end.0 = omega (arith, top, up) in
      levels at end.0 above reaches ∙ end.1.1 ∙ sym (levels' at end.0 above reaches)

-- ---- writes whose sequences are all at or below some

same_touching : (ws : List Write) (key : List ℕ) (high a b : ℕ) → AllByRecursion (λ (w : Write). w.seq ≤ high) ws → high ≤ a → high ≤ b → touching ws key a ≡ touching ws key b
same_touching [] key high a b h up over = refl
same_touching (w ∷ ws) key high a b h up over =
    let le : w.seq ≤ high = h.0 in
    let one : leb w.seq a ≡ true = grind (arith, nat_tests) in
    let two : leb w.seq b ≡ true = grind (arith, nat_tests) in
    ap (λ (vs : List Write). cond (leb w.seq a && touches_key key w.op) (w ∷ vs) vs) (same_touching ws key high a b h.1 up over)
    ∙ ap (λ c. cond (c && touches_key key w.op) (w ∷ touching ws key b) (touching ws key b)) (one ∙ sym two)

-- the writes of a run have sequences of its range
pub plain_within : (P : ℕ → Type 0) (r : Contents) → IsRun r.low r.high r.points r.fragments → HoldsWithin P r → AllByRecursion (λ (w : Write). P w.seq) (plain_list r)
plain_within P r is_run holds =
    all_moved (λ (w : Write). P w.seq) (map point_write r.points ++ flat_map fragment_writes r.fragments)
    (all-append (λ (w : Write). P w.seq) (map point_write r.points) (flat_map fragment_writes r.fragments)
    (all-mapped point_write (λ (w : Write). P w.seq) r.points (run_points P r is_run holds))
    (all-flat_map fragment_writes (λ (w : Write). P w.seq) r.fragments (all-map (λ (f : Fragment). AllByRecursion P f.seqs) (λ f. AllByRecursion (λ (w : Write). P w.seq) (fragment_writes f)) (λ f h. of_fragment f f.seqs h) r.fragments (run_fragments P r is_run holds))))
  where
    of_fragment : (f : Fragment) (ns : List ℕ) → AllByRecursion P ns → AllByRecursion (λ (w : Write). P w.seq) (fragment_writes (record { begin = f.begin; end = f.end; seqs = ns }))
    of_fragment f [] h = tt
    of_fragment f (n ∷ ns) h = (h.0, of_fragment f ns h.1)

pub writes_within : (P : ℕ → Type 0) (runs : List Contents) → AreRuns runs → AllByRecursion (HoldsWithin P) runs → AllByRecursion (λ (w : Write). P w.seq) (writes_of runs)
writes_within P [] are holds = tt
writes_within P (r ∷ runs) are holds = all-append (λ (w : Write). P w.seq) (writes_of runs) (plain_list r) (writes_within P runs are.1 holds.1) (plain_within P r are.0 holds.0)

ascends-append : (ws vs : List Write) → Ascends ws → Ascends vs → AllByRecursion (λ (w : Write). AllByRecursion (λ (v : Write). w.seq ≤ v.seq) vs) ws → Ascends (ws ++ vs)
ascends-append [] vs h k le = k
ascends-append (w ∷ ws) vs h k le = (all-append (λ (v : Write). w.seq ≤ v.seq) ws vs h.0 le.0, ascends-append ws vs h.1 k le.1)

writes_ascend : (runs : List Contents) → AreRuns runs → AreNewestFirst runs → Ascends (writes_of runs)
writes_ascend [] are order = tt
writes_ascend (r ∷ runs) are order =
    ascends-append (writes_of runs) (plain_list r) (writes_ascend runs are.1 order.1) (ascends-by_seq (map point_write r.points ++ flat_map fragment_writes r.fragments))
    (all-map (λ (w : Write). w.seq < r.low) (λ w. AllByRecursion (λ (v : Write). w.seq ≤ v.seq) (plain_list r)) (λ w lt. all-map (λ (v : Write). r.low ≤ v.seq) (λ v. w.seq ≤ v.seq) (λ v le. omega (arith, lt, le)) (plain_list r) (plain_within (λ n. r.low ≤ n) r are.0 (λ n within. within.0)))
    (writes_of runs) (writes_within (λ n. n < r.low) runs are.1 (all-map (λ (t : Contents). t.high < r.low) (HoldsWithin (λ n. n < r.low)) (λ t lt n within. let le : n ≤ t.high = within.1 in omega (arith, lt, le)) runs order.0)))

pub writes_in_order : (runs : List Contents) → AreRuns runs → AreNewestFirst runs → IsNonDecreasingBy (λ (w : Write). w.seq) (writes_of runs)
writes_in_order runs are order = ascends_by_place (writes_of runs) (writes_ascend runs are order)

-- ---- a stripe

swapped : {X Y : Type 0} (R : X → Y → Type 0) (xs : List X) (ys : List Y) → AllByRecursion (λ x. AllByRecursion (λ y. R x y) ys) xs → AllByRecursion (λ y. AllByRecursion (λ x. R x y) xs) ys
swapped R xs [] h = tt
swapped {X} {Y} R xs (y ∷ ys) h = (all-map (λ x. AllByRecursion (λ z. R x z) (y ∷ ys)) (λ x. R x y) (λ x k. k.0) xs h, swapped R xs ys (all-map (λ x. AllByRecursion (λ z. R x z) (y ∷ ys)) (λ x. AllByRecursion (λ z. R x z) ys) (λ x k. k.1) xs h))

all_three : {X : Type 0} (P Q R S : X → Type 0) → ((x : X) → P x → Q x → R x → S x) → (xs : List X) → AllByRecursion P xs → AllByRecursion Q xs → AllByRecursion R xs → AllByRecursion S xs
all_three P Q R S f [] h k l = tt
all_three P Q R S f (x ∷ xs) h k l = (f x h.0 k.0 l.0, all_three P Q R S f xs h.1 k.1 l.1)

all_two : {X : Type 0} (P Q S : X → Type 0) → ((x : X) → P x → Q x → S x) → (xs : List X) → AllByRecursion P xs → AllByRecursion Q xs → AllByRecursion S xs
all_two P Q S f [] h k = tt
all_two P Q S f (x ∷ xs) h k = (f x h.0 k.0, all_two P Q S f xs h.1 k.1)

module _ (m : Operation) (laws : IsLawful m) (c : Compaction) (are : AreRuns c.inputs) (stand : Stand c.inputs c.keeps) (key : List ℕ) where
  abbrev out : Contents
  out = output_of m c

  abbrev found : Stripe → Effect
  found s = effect_within m (plain_list (output_of m c)) key s.above s.upto

  abbrev wanted : Stripe → Effect
  wanted s = effect_within m (writes_of c.inputs) key s.above s.upto

  module _ (s : Stripe) where
    abbrev points : List Entry
    points = points_in key (is_in s) c.inputs

    abbrev seqs : List ℕ
    seqs = seqs_in key (is_in s) c.inputs

    abbrev point_for : Bool → Effect → ℕ → Option Entry
    point_for bottom effect t = cond (ltb 0 (newest_point c key s)) (option_map (λ (w : What). record { key = key; seq = newest_point c key s; what = w }) (what_kept m bottom effect (ltb (newest_point c key s) t))) None

    abbrev seq_for : Bool → Option ℕ
    seq_for bottom = cond bottom None (cond (ltb 0 (greatest seqs)) (Some (greatest seqs)) None)

    wanted_is : effect_in m c key s ≡ above_newest m points seqs
    wanted_is = effect_of_runs m laws key s c.inputs are stand.newest_first

    range_is : newest_range c key s ≡ greatest seqs
    range_is = ap greatest (ranges_seqs key (is_in s) (flat_map (λ (r : Contents). r.fragments) c.inputs))

    positive : AllByRecursion (HoldsWithin (λ n. 0 < n)) c.inputs
    positive = each c.inputs are
      where
        each : (rs : List Contents) → AreRuns rs → AllByRecursion (HoldsWithin (λ n. 0 < n)) rs
        each [] are = tt
        each (r ∷ rs) are = ((λ n within. let one : 1 ≤ r.low = are.0.from_one in let le : r.low ≤ n = within.0 in omega (arith, one, le)), each rs are.1)

    points_positive : AllByRecursion (λ n. 0 < n) (map (λ (p : Entry). p.seq) points)
    points_positive = all-mapped (λ (p : Entry). p.seq) (λ n. 0 < n) points (all-filter (λ (p : Entry). 0 < p.seq) (is_passing key (is_in s)) (points_of c.inputs) (all_points (λ n. 0 < n) c.inputs are positive))

    seqs_positive : AllByRecursion (λ n. 0 < n) seqs
    seqs_positive = all-filter (λ n. 0 < n) (is_in s) (seqs_of key c.inputs) (all_seqs (λ n. 0 < n) key c.inputs are positive)

    kept_seq_is : (t : ℕ) (b : Bool) → cons_option (cond b (Some t) None) [] ≡ cond b (t ∷ []) []
    kept_seq_is t true = refl
    kept_seq_is t false = refl

    apart : AllByRecursion (λ n. AllByRecursion (λ (p : Entry). p.seq ≡ n → ⊥) points) seqs
    apart = swapped (λ (p : Entry) (n : ℕ). p.seq ≡ n → ⊥) points seqs (all-map (λ (p : Entry). AllByRecursion (λ n. n ≡ p.seq → ⊥) seqs) (λ p. AllByRecursion (λ n. p.seq ≡ n → ⊥) seqs) (λ p h. all-map (λ n. n ≡ p.seq → ⊥) (λ n. p.seq ≡ n → ⊥) (λ n no e. no (sym e)) seqs h) points (points_apart key (is_in s) c.inputs are stand.newest_first))

    pub FoundAs : Effect → Type 0
    FoundAs effect = effect ≡ above_newest m (cons_option (point_kept m c key s) []) (cons_option (seq_kept (keeping_of c) (seqs_of key c.inputs) s) [])

    found_as : filter (is_passing key (is_in s)) (points_kept m c) ≡ cons_option (point_kept m c key s) [] → filter (is_in s) (flat_map (λ (f : Fragment). f.seqs) (filter (λ f. covers f key) (fragments_kept c))) ≡ cons_option (seq_kept (keeping_of c) (seqs_of key c.inputs) s) [] → found s ≡ above_newest m (cons_option (point_kept m c key s) []) (cons_option (seq_kept (keeping_of c) (seqs_of key c.inputs) s) [])
    found_as points_are seqs_are =
        found_within m (output_of m c) (output_is_run m c are stand) key s.above s.upto
        ∙ ap (λ (ps : List Entry). above_newest m ps (filter (is_in s) (flat_map (λ (f : Fragment). f.seqs) (filter (λ f. covers f key) (fragments_kept c))))) points_are
        ∙ ap (above_newest m (cons_option (point_kept m c key s) [])) seqs_are

    -- the point and the sequence that stand for the stripe
    abbrev stood : Bool → Effect → ℕ → Effect
    stood bottom effect t = above_newest m (cons_option (point_for bottom effect t) []) (cons_option (seq_for bottom) [])

    stood_is : (b : Bool) → is_bottom (keeping_of c) s ≡ b → above_newest m (cons_option (point_kept m c key s) []) (cons_option (seq_kept (keeping_of c) (seqs_of key c.inputs) s) []) ≡ stood b (above_newest m points seqs) (greatest seqs)
    stood_is b e =
        ap (λ bottom. stood bottom (effect_in m c key s) (newest_range c key s)) e
        ∙ ap (λ (effect : Effect). stood b effect (newest_range c key s)) wanted_is
        ∙ ap (stood b (above_newest m points seqs)) range_is

    same_effect : is_bottom (keeping_of c) s ≡ false → above_newest m (cons_option (point_kept m c key s) []) (cons_option (seq_kept (keeping_of c) (seqs_of key c.inputs) s) []) ≡ wanted s
    same_effect e =
        stood_is false e
        ∙ ap (above_newest m (cons_option (point_for false (above_newest m points seqs) (greatest seqs)) [])) (kept_seq_is (greatest seqs) (ltb 0 (greatest seqs)))
        ∙ stands m key points seqs (points_fall key (is_in s) c.inputs are stand.newest_first) (seqs_fall key (is_in s) c.inputs are stand.newest_first) points_positive seqs_positive apart
        ∙ sym wanted_is

    same_value : is_bottom (keeping_of c) s ≡ true → applied m (above_newest m (cons_option (point_kept m c key s) []) (cons_option (seq_kept (keeping_of c) (seqs_of key c.inputs) s) [])) None ≡ applied m (wanted s) None
    same_value e =
        ap (λ (effect : Effect). applied m effect None) (stood_is true e)
        ∙ stands_alone m key points seqs (points_fall key (is_in s) c.inputs are stand.newest_first) points_positive
        ∙ ap (λ (effect : Effect). applied m effect None) (sym wanted_is)

  -- ---- reads

  abbrev V : List Write
  V = plain_list (output_of m c)

  abbrev W : List Write
  W = writes_of c.inputs

  high_top : high_of c.inputs ≤ 2 ^ 56 - 1
  high_top = let lt : high_of c.inputs < 2 ^ 56 = high_below c.inputs are stand.some in omega (arith, lt)

  V_within : AllByRecursion (λ (w : Write). IsWithin (low_of c.inputs) (high_of c.inputs) w.seq) V
  V_within = plain_within (IsWithin (low_of c.inputs) (high_of c.inputs)) (output_of m c) (output_is_run m c are stand) (λ n within. within)

  W_within : AllByRecursion (λ (w : Write). IsWithin (low_of c.inputs) (high_of c.inputs) w.seq) W
  W_within = writes_within (IsWithin (low_of c.inputs) (high_of c.inputs)) c.inputs are (all_within c.inputs are stand.newest_first)

  V_order : IsNonDecreasingBy (λ (w : Write). w.seq) V
  V_order = ascends_by_place V (ascends-by_seq (map point_write (points_kept m c) ++ flat_map fragment_writes (fragments_kept c)))

  W_order : IsNonDecreasingBy (λ (w : Write). w.seq) W
  W_order = writes_in_order c.inputs are stand.newest_first

  abbrev Within : List Write → Type 0
  Within ws = AllByRecursion (λ (w : Write). IsWithin (low_of c.inputs) (high_of c.inputs) w.seq) ws

  up_to_high : (ws : List Write) → Within ws → AllByRecursion (λ (w : Write). w.seq ≤ high_of c.inputs) ws
  up_to_high ws h = all-map (λ (w : Write). IsWithin (low_of c.inputs) (high_of c.inputs) w.seq) (λ w. w.seq ≤ high_of c.inputs) (λ w within. within.1) ws h

  none_below : (at : ℕ) → at < low_of c.inputs → (ws : List Write) → Within ws → effect_on m ws key at ≡ Keep
  none_below at lt ws h = later_keep m ws key at (all-map (λ (w : Write). IsWithin (low_of c.inputs) (high_of c.inputs) w.seq) (λ w. at < w.seq) (λ w within. let le : low_of c.inputs ≤ w.seq = within.0 in omega (arith, lt, le)) ws h)

  zero_below : 0 < low_of c.inputs
  zero_below = let one : 1 ≤ low_of c.inputs = low_from_one c.inputs are stand.some in omega (arith, one)

  no_value_below : (at : ℕ) → at < low_of c.inputs → (ws : List Write) → Within ws → value_of m ws key at ≡ None
  no_value_below at lt ws h = sym (effect_gives m laws None ws key at) ∙ ap (λ (effect : Effect). applied m effect None) (none_below at lt ws h)

  abbrev FoundIn : Stripe → Type 0
  FoundIn s = found s ≡ above_newest m (cons_option (point_kept m c key s) []) (cons_option (seq_kept (keeping_of c) (seqs_of key c.inputs) s) [])

  all_found : AllByRecursion FoundIn (stripes c.keeps)
  all_found =
      all_two (λ s. filter (is_passing key (is_in s)) (points_kept m c) ≡ cons_option (point_kept m c key s) []) (λ s. filter (is_in s) (flat_map (λ (f : Fragment). f.seqs) (filter (λ f. covers f key) (fragments_kept c))) ≡ cons_option (seq_kept (keeping_of c) (seqs_of key c.inputs) s) []) FoundIn
      (λ s points_are seqs_are. found_as s points_are seqs_are) (stripes c.keeps) (points_found m c are stand key) (cover_found m c are stand key)

  not_bottom : (s : Stripe) → c.oldest ≡ false → is_bottom (keeping_of c) s ≡ false
  not_bottom s e = ap (λ b. has_bottom (cond b (Some (low_of c.inputs)) None) s) e

  effects_stay_in_stripes : AllByRecursion (λ s. is_bottom (keeping_of c) s ≡ false → found s ≡ wanted s) (stripes c.keeps)
  effects_stay_in_stripes = all-map FoundIn (λ s. is_bottom (keeping_of c) s ≡ false → found s ≡ wanted s) (λ s f e. f ∙ same_effect s e) (stripes c.keeps) all_found

  values_stay_in_stripes : AllByRecursion (λ s. is_bottom (keeping_of c) s ≡ true → applied m (found s) None ≡ applied m (wanted s) None) (stripes c.keeps)
  values_stay_in_stripes = all-map FoundIn (λ s. is_bottom (keeping_of c) s ≡ true → applied m (found s) None ≡ applied m (wanted s) None) (λ s f e. ap (λ (effect : Effect). applied m effect None) f ∙ same_value s e) (stripes c.keeps) all_found

  effects_stay : c.oldest ≡ false → (at : ℕ) → IsReadAt c.keeps (high_of c.inputs) at → effect_on m V key at ≡ effect_on m W key at
  effects_stay e at kept =
      equal_at (effect_on m V key) (effect_on m W key) c.keeps stand.keeps_rise (none_below 0 zero_below V V_within ∙ sym (none_below 0 zero_below W W_within))
      (all-map FoundIn (StaysOver (effect_on m V key) (effect_on m W key)) (λ s f le same. stays s f le same) (stripes c.keeps) all_found)
      (high_of c.inputs) high_top
      (λ a b up over. ap (effect_in_turn m) (same_touching V key (high_of c.inputs) a b (up_to_high V V_within) up over))
      (λ a b up over. ap (effect_in_turn m) (same_touching W key (high_of c.inputs) a b (up_to_high W W_within) up over))
      at kept
    where
      stays : (s : Stripe) → FoundIn s → s.above ≤ s.upto → effect_on m V key s.above ≡ effect_on m W key s.above → effect_on m V key s.upto ≡ effect_on m W key s.upto
      stays s f le same =
          stripe_below m laws V key V_order s.above s.upto le
          ∙ ap (λ (effect : Effect). composed m effect (found s)) same
          ∙ ap (composed m (effect_on m W key s.above)) (f ∙ same_effect s (not_bottom s e))
          ∙ sym (stripe_below m laws W key W_order s.above s.upto le)

  abbrev bottom_by : Bool → Bool → Bool
  bottom_by o b = cond o b false

  bottom_is : (s : Stripe) (o : Bool) → has_bottom (cond o (Some (low_of c.inputs)) None) s ≡ bottom_by o (is_in s (low_of c.inputs))
  bottom_is s true = refl
  bottom_is s false = refl

  above_from : (s : Stripe) → is_bottom (keeping_of c) s ≡ true → s.above < low_of c.inputs
  above_from s e = by c.oldest (ltb s.above (low_of c.inputs)) (leb (low_of c.inputs) s.upto) refl (sym (bottom_is s c.oldest) ∙ e)
    where
      by : (o a b : Bool) → ltb s.above (low_of c.inputs) ≡ a → bottom_by o (a && b) ≡ true → s.above < low_of c.inputs
      by true true b f g = grind (arith, nat_tests)
      by true false b f g = absurd cc
      by false a b f g = absurd cc

  value_stays : (s : Stripe) → FoundIn s → s.above ≤ s.upto → value_of m V key s.above ≡ value_of m W key s.above → (b : Bool) → is_bottom (keeping_of c) s ≡ b → value_of m V key s.upto ≡ value_of m W key s.upto
  value_stays s f le same false e =
      stripe_changes m laws V key V_order s.above s.upto le
      ∙ ap (applied m (found s)) same
      ∙ ap (λ (effect : Effect). applied m effect (value_of m W key s.above)) (f ∙ same_effect s e)
      ∙ sym (stripe_changes m laws W key W_order s.above s.upto le)
  value_stays s f le same true e =
      stripe_changes m laws V key V_order s.above s.upto le
      ∙ ap (applied m (found s)) (no_value_below s.above (above_from s e) V V_within)
      ∙ ap (λ (effect : Effect). applied m effect None) f
      ∙ same_value s e
      ∙ sym (ap (applied m (wanted s)) (no_value_below s.above (above_from s e) W W_within))
      ∙ sym (stripe_changes m laws W key W_order s.above s.upto le)

  values_stay : (at : ℕ) → IsReadAt c.keeps (high_of c.inputs) at → value_of m V key at ≡ value_of m W key at
  values_stay at kept =
      equal_at (value_of m V key) (value_of m W key) c.keeps stand.keeps_rise (no_value_below 0 zero_below V V_within ∙ sym (no_value_below 0 zero_below W W_within))
      (all-map FoundIn (StaysOver (value_of m V key) (value_of m W key)) (λ s f le same. value_stays s f le same (is_bottom (keeping_of c) s) refl) (stripes c.keeps) all_found)
      (high_of c.inputs) high_top
      (λ a b up over. sym (effect_gives m laws None V key a) ∙ ap (λ (ws : List Write). applied m (effect_in_turn m ws) None) (same_touching V key (high_of c.inputs) a b (up_to_high V V_within) up over) ∙ effect_gives m laws None V key b)
      (λ a b up over. sym (effect_gives m laws None W key a) ∙ ap (λ (ws : List Write). applied m (effect_in_turn m ws) None) (same_touching W key (high_of c.inputs) a b (up_to_high W W_within) up over) ∙ effect_gives m laws None W key b)
      at kept

module _ (m : Operation) (laws : IsLawful m) (c : Compaction) (are : AreRuns c.inputs) (stand : Stand c.inputs c.keeps) where
  pub keeps_stripes : KeepsStripes m c (output_of m c)
  keeps_stripes = record {
    effects = λ key. effects_stay_in_stripes m laws c are stand key;
    bottom = λ key. values_stay_in_stripes m laws c are stand key;
  }

  pub keeps_reads : KeepsReads m c (output_of m c)
  keeps_reads = record {
    effects = λ newer key at kept. effects_stay m laws c are stand key newer at kept;
    values = λ key at kept. values_stay m laws c are stand key at kept;
  }

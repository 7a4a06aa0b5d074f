-- A lookup has the result of the plain list.
use Rattle.std.proofs.Common.{◌≡◌, ℕ, ◌<◌, ◌≤◌, Bool, true, false, cond, leb, ltb, List, [], ◌∷◌, ◌++◌, map, fold, filter, refl, sym, ap, ◌∙◌, subst, arith, ◌==◌}
use Rattle.std.specs.Prelude.{None, nat_lt, Contains, ◌&&◌}
use Rattle.std.specs.List.{AllByRecursion, flat_map}
use Rattle.std.specs.List.Sorted.{IsStrictlySortedBy}
use Rattle.std.specs.declared.cmp.Ordering.TheVariants.{Less}
use Rattle.std.specs.Ordering.{nat_cmp}
use Rattle.std.proofs.lemmas.Bool.Decides.{nat_tests}
use Rattle.std.proofs.lemmas.List.{append-nil}
use Rattle.std.proofs.lemmas.List.Elements.{filter-append}
use Rattle.std.proofs.lemmas.List.Sorted.{All-permutation, IsPermutation-sym}
use Rattle.uc_oper.specs.Operation.{Operation}
use Rattle.uc_oper.specs.Composition.{composed}
use Rattle.uc_oper.specs.declared.effect.Effect.{Effect}
use Rattle.uc_oper.specs.declared.effect.Effect.TheVariants.{Keep, Set}
use Rattle.uc_bytes.specs.declared.write.Write.{Write}
use Rattle.uc_model.specs.Meaning.{touches_key, effect_of, effect_in_turn, effect_within}
use Rattle.uc_run_entry.specs.declared.entry.Entry.{Entry}
use Rattle.uc_run_entry.specs.Order.{IsFalling}
use Rattle.uc_run_entry.specs.Run.{Contents, IsWhole, IsRun, covers}
use Rattle.uc_run_entry.specs.PlainList.{point_write, fragment_writes, writes_of, by_seq, plain_list}
use Rattle.uc_run_entry.specs.Lookup.{points_effect, is_passing, passing_points, passing_seqs, above_newest, passing_effect}
use Rattle.uc_run_entry.proofs.BySeq.{Ascends, all_map, all_is, all_each, ascends-by_seq, moved-by_seq, filter-by_seq}
use Rattle.uc_run_entry.proofs.Points.{backwards, turn-backwards, fold_on, key_of_passing, PointsFall, all_pass, PointsFall-filter, passing_fall, by_seq-points, seen_points, filter-points, all-filtered}
use Rattle.uc_run_entry.proofs.Covers.{is_touching, all_append, seen_covers, seqs_of_covers, Clears, covers_clear, covers_fall, missing_over}

-- ---- writes that ascend, cut at a sequence

cut_first : (newest : ℕ) (w : Write) (older newer : List Write) (b c : Bool) → leb w.seq newest ≡ b → ltb newest w.seq ≡ c → (b ≡ false → older ≡ []) → cond b (w ∷ older) older ++ cond c (w ∷ newer) newer ≡ w ∷ (older ++ newer)
cut_first newest w older newer true false e f none = refl
cut_first newest w older newer false true e f none = ap (λ (ws : List Write). ws ++ w ∷ newer) (none refl) ∙ ap (λ (ws : List Write). w ∷ (ws ++ newer)) (sym (none refl))
cut_first newest w older newer true true e f none = absurd (grind (arith, nat_tests))
cut_first newest w older newer false false e f none = absurd (grind (arith, nat_tests))

none_older : (newest : ℕ) (ws : List Write) → AllByRecursion (λ v. newest < v.seq) ws → filter (λ (v : Write). leb v.seq newest) ws ≡ []
none_older newest [] h = refl
none_older newest (w ∷ ws) h =
    let lt : newest < w.seq = h.0 in
    let e : leb w.seq newest ≡ false = grind (arith, nat_tests) in
    ap (λ b. cond b (w ∷ filter (λ (v : Write). leb v.seq newest) ws) (filter (λ (v : Write). leb v.seq newest) ws)) e ∙ none_older newest ws h.1

cut_at : (newest : ℕ) (ws : List Write) → Ascends ws → ws ≡ filter (λ (w : Write). leb w.seq newest) ws ++ filter (λ (w : Write). ltb newest w.seq) ws
cut_at newest [] h = refl
cut_at newest (w ∷ ws) h =
    sym (cut_first newest w (filter (λ (v : Write). leb v.seq newest) ws) (filter (λ (v : Write). ltb newest v.seq) ws) (leb w.seq newest) (ltb newest w.seq) refl refl
    (λ e. let above : newest < w.seq = grind (arith, nat_tests) in none_older newest ws (all_map (λ v. w.seq ≤ v.seq) (λ v. newest < v.seq) (λ v le. omega (arith, le, above)) ws h.0))
    ∙ ap (λ (vs : List Write). w ∷ vs) (sym (cut_at newest ws h.1)))

-- ---- writes of which the last ones clear the key

module _ (m : Operation) (newest : ℕ) where
  abbrev turn : Effect → List Write → Effect
  turn before ws = fold (λ effect w. composed m effect (effect_of w.op)) before ws

  -- those of the newest sequence clear it
  abbrev ClearsAt : Write → Type 0
  ClearsAt w = w.seq ≡ newest → Clears w

  cleared_already : (ws : List Write) → AllByRecursion Clears ws → turn (Set None) ws ≡ Set None
  cleared_already [] h = refl
  cleared_already (w ∷ ws) h = ap (λ (effect : Effect). turn (composed m (Set None) effect) ws) h.0 ∙ cleared_already ws h.1

  all_clear_from : (n : ℕ) (ws : List Write) → n ≡ newest → AllByRecursion (λ w. n ≤ w.seq) ws → AllByRecursion (λ w. w.seq ≤ newest) ws → AllByRecursion ClearsAt ws → AllByRecursion Clears ws
  all_clear_from n [] e low high h = tt
  all_clear_from n (w ∷ ws) e low high h =
      let up : n ≤ w.seq = low.0 in
      let down : w.seq ≤ newest = high.0 in
      (h.0 (omega (arith, up, down, e)), all_clear_from n ws e low.1 high.1 h.1)

  same_seq : (a b : ℕ) → (a == b) ≡ true → a ≡ b
  same_seq a b e = grind (arith, nat_tests)

  other_seq : (a b : ℕ) → (a == b) ≡ false → a ≡ b → ⊥
  other_seq a b e f = grind (arith, nat_tests)

  clears_first : (before : Effect) (w : Write) (ws : List Write) (b : Bool) → (w.seq == newest) ≡ b → Ascends (w ∷ ws) → AllByRecursion (λ v. v.seq ≤ newest) ws → AllByRecursion ClearsAt (w ∷ ws) → (AllByRecursion (λ v. v.seq ≡ newest → ⊥) (w ∷ ws) → ⊥) → ((before : Effect) → (AllByRecursion (λ v. v.seq ≡ newest → ⊥) ws → ⊥) → turn before ws ≡ Set None) → turn before (w ∷ ws) ≡ Set None
  clears_first before w ws true e up high h some rest =
      let same : w.seq ≡ newest = same_seq w.seq newest e in
      ap (λ (effect : Effect). turn (composed m before effect) ws) (h.0 same) ∙ cleared_already ws (all_clear_from w.seq ws same up.0 high h.1)
  clears_first before w ws false e up high h some rest = rest (composed m before (effect_of w.op)) (λ none. some (other_seq w.seq newest e, none))

  clears_last : (ws : List Write) → Ascends ws → AllByRecursion (λ w. w.seq ≤ newest) ws → AllByRecursion ClearsAt ws → (before : Effect) → (AllByRecursion (λ w. w.seq ≡ newest → ⊥) ws → ⊥) → turn before ws ≡ Set None
  clears_last [] up high h before some = absurd (some tt)
  clears_last (w ∷ ws) up high h before some = clears_first before w ws (w.seq == newest) refl up high.1 h some (clears_last ws up.1 high.1 h.1)

-- what doesn't pass a test has a property, and so has what passes: all have
restored : {X : Type 0} (P : X → Type 0) (test : X → Bool) (x : X) (xs kept : List X) (b : Bool) → (b ≡ false → P x) → (AllByRecursion P kept → AllByRecursion P xs) → AllByRecursion P (cond b (x ∷ kept) kept) → AllByRecursion P (x ∷ xs)
restored P test x xs kept true other rest h = (h.0, rest h.1)
restored P test x xs kept false other rest h = (other refl, rest h)

all_from_filter : {X : Type 0} (P : X → Type 0) (test : X → Bool) → ((x : X) → test x ≡ false → P x) → (xs : List X) → AllByRecursion P (filter test xs) → AllByRecursion P xs
all_from_filter P test other [] h = tt
all_from_filter P test other (x ∷ xs) h = restored P test x xs (filter test xs) (test x) (other x) (all_from_filter P test other xs) h

ascends_kept : (test : Write → Bool) (w : Write) (kept : List Write) (b : Bool) → AllByRecursion (λ v. w.seq ≤ v.seq) kept → Ascends kept → Ascends (cond b (w ∷ kept) kept)
ascends_kept test w kept true low h = (low, h)
ascends_kept test w kept false low h = h

ascends-filter : (test : Write → Bool) (ws : List Write) → Ascends ws → Ascends (filter test ws)
ascends-filter test [] h = tt
ascends-filter test (w ∷ ws) h = ascends_kept test w (filter test ws) (test w) (all-filtered (λ v. w.seq ≤ v.seq) test ws h.0) (ascends-filter test ws h.1)

passes_at_most : (newest : ℕ) (ws : List Write) → AllByRecursion (λ w. w.seq ≤ newest) (filter (λ (w : Write). leb w.seq newest) ws)
passes_at_most newest ws =
    all_map (λ (w : Write). leb w.seq newest ≡ true) (λ w. w.seq ≤ newest) (λ w e. grind (arith, nat_tests)) (filter (λ (w : Write). leb w.seq newest) ws) (all_pass (λ (w : Write). leb w.seq newest) ws)

all_mapped : (P : ℕ → Type 0) (ws : List Write) → AllByRecursion (λ (w : Write). P w.seq) ws → AllByRecursion P (map (λ (w : Write). w.seq) ws)
all_mapped P [] h = tt
all_mapped P (w ∷ ws) h = (h.0, all_mapped P ws h.1)

all_unmapped : (P : ℕ → Type 0) (ws : List Write) → AllByRecursion P (map (λ (w : Write). w.seq) ws) → AllByRecursion (λ (w : Write). P w.seq) ws
all_unmapped P [] h = tt
all_unmapped P (w ∷ ws) h = (h.0, all_unmapped P ws h.1)

none_newer : (newest : ℕ) (ws : List Write) → AllByRecursion (λ (w : Write). w.seq ≤ newest) ws → filter (λ (w : Write). ltb newest w.seq) ws ≡ []
none_newer newest [] h = refl
none_newer newest (w ∷ ws) h =
    let le : w.seq ≤ newest = h.0 in
    let e : ltb newest w.seq ≡ false = grind (arith, nat_tests) in
    ap (λ b. cond b (w ∷ filter (λ (v : Write). ltb newest v.seq) ws) (filter (λ (v : Write). ltb newest v.seq) ws)) e ∙ none_newer newest ws h.1

not_at : (newest : ℕ) (w : Write) → leb w.seq newest ≡ false → w.seq ≡ newest → ⊥
not_at newest w e same = grind (arith, nat_tests)

all_behind : {X : Type 0} (P : X → Type 0) (xs ys : List X) → AllByRecursion P (xs ++ ys) → AllByRecursion P ys
all_behind P [] ys h = h
all_behind P (x ∷ xs) ys h = all_behind P xs ys h.1

pub all_moved : (P : Write → Type 0) (ws : List Write) → AllByRecursion P ws → AllByRecursion P (by_seq ws)
all_moved P ws h = all_each P (by_seq ws) (All-permutation P ws (by_seq ws) (moved-by_seq ws) (all_is P ws h))

all_moved_back : (P : Write → Type 0) (ws : List Write) → AllByRecursion P (by_seq ws) → AllByRecursion P ws
all_moved_back P ws h = all_each P ws (All-permutation P (by_seq ws) ws (IsPermutation-sym ws (by_seq ws) (moved-by_seq ws)) (all_is P (by_seq ws) h))

less_number : (a b : ℕ) → nat_cmp a b ≡ Less → a < b
less_number a b e = grind (arith, nat_tests)

-- ---- points, and clearing writes whose newest is below or above them

module _ (m : Operation) (points : List Entry) (falls : PointsFall points) where
  -- without clearing writes
  alone : (clearing : List Write) → map (λ (w : Write). w.seq) clearing ≡ [] → effect_in_turn m (by_seq (map point_write points ++ clearing)) ≡ points_effect m Keep points
  alone [] e =
      ap (λ (ws : List Write). effect_in_turn m (by_seq ws)) (append-nil (map point_write points))
      ∙ ap (effect_in_turn m) (by_seq-points points falls)
      ∙ turn-backwards m Keep points
  alone (w ∷ ws) e = absurd cc

  module _ (clearing : List Write) (newest : ℕ) (older : List ℕ) (seqs : map (λ (w : Write). w.seq) clearing ≡ newest ∷ older) (below : AllByRecursion (λ n. n < newest) older) (clears : AllByRecursion Clears clearing) (apart : AllByRecursion (λ p. p.seq ≡ newest → ⊥) points) where
    abbrev all : List Write
    all = by_seq (map point_write points ++ clearing)

    at_most : AllByRecursion (λ (w : Write). w.seq ≤ newest) clearing
    at_most = all_unmapped (λ n. n ≤ newest) clearing (subst (AllByRecursion (λ n. n ≤ newest)) (sym seqs) (omega arith, all_map (λ n. n < newest) (λ n. n ≤ newest) (λ n lt. omega (arith, lt)) older below))

    some_newest : AllByRecursion (λ (w : Write). w.seq ≡ newest → ⊥) clearing → ⊥
    some_newest none = (subst (AllByRecursion (λ n. n ≡ newest → ⊥)) seqs (all_mapped (λ n. n ≡ newest → ⊥) clearing none)).0 refl

    -- the newer writes are points
    newer : filter (λ (w : Write). ltb newest w.seq) all ≡ backwards (filter (λ p. ltb newest p.seq) points)
    newer =
        filter-by_seq (λ (w : Write). ltb newest w.seq) (map point_write points ++ clearing)
        ∙ ap by_seq (filter-append (λ (w : Write). ltb newest w.seq) (map point_write points) clearing
        ∙ ap (λ (ws : List Write). ws ++ filter (λ (w : Write). ltb newest w.seq) clearing) (filter-points (λ n. ltb newest n) points)
        ∙ ap (λ (ws : List Write). map point_write (filter (λ (p : Entry). ltb newest p.seq) points) ++ ws) (none_newer newest clearing at_most)
        ∙ append-nil (map point_write (filter (λ (p : Entry). ltb newest p.seq) points)))
        ∙ by_seq-points (filter (λ (p : Entry). ltb newest p.seq) points) (PointsFall-filter (λ (p : Entry). ltb newest p.seq) points falls)

    clears_all : AllByRecursion (ClearsAt m newest) (map point_write points ++ clearing)
    clears_all = all_append (ClearsAt m newest) (map point_write points) clearing (of_points points apart) (all_map Clears (ClearsAt m newest) (λ w clear same. clear) clearing clears)
      where
        of_points : (ps : List Entry) → AllByRecursion (λ p. p.seq ≡ newest → ⊥) ps → AllByRecursion (ClearsAt m newest) (map point_write ps)
        of_points [] h = tt
        of_points (p ∷ ps) h = ((λ same. absurd (h.0 same)), of_points ps h.1)

    -- the others end in a clearing one
    older_clear : turn m newest Keep (filter (λ (w : Write). leb w.seq newest) all) ≡ Set None
    older_clear =
        clears_last m newest (filter (λ (w : Write). leb w.seq newest) all)
        (ascends-filter (λ (w : Write). leb w.seq newest) all (ascends-by_seq (map point_write points ++ clearing)))
        (passes_at_most newest all)
        (all-filtered (ClearsAt m newest) (λ (w : Write). leb w.seq newest) all (all_moved (ClearsAt m newest) (map point_write points ++ clearing) clears_all))
        Keep
        (λ none. some_newest (all_behind (λ (w : Write). w.seq ≡ newest → ⊥) (map point_write points) clearing
        (all_moved_back (λ (w : Write). w.seq ≡ newest → ⊥) (map point_write points ++ clearing)
        (all_from_filter (λ (w : Write). w.seq ≡ newest → ⊥) (λ (w : Write). leb w.seq newest) (λ w e same. not_at newest w e same) all none))))

    pub above : effect_in_turn m all ≡ points_effect m (Set None) (filter (λ p. nat_lt newest p.seq) points)
    above =
        ap (effect_in_turn m) (cut_at newest all (ascends-by_seq (map point_write points ++ clearing)))
        ∙ fold_on (λ (effect : Effect) (w : Write). composed m effect (effect_of w.op)) Keep (filter (λ (w : Write). leb w.seq newest) all) (filter (λ (w : Write). ltb newest w.seq) all)
        ∙ ap (λ (effect : Effect). turn m newest effect (filter (λ (w : Write). ltb newest w.seq) all)) older_clear
        ∙ ap (turn m newest (Set None)) newer
        ∙ turn-backwards m (Set None) (filter (λ (p : Entry). ltb newest p.seq) points)

-- ---- a run

falling_below : (newest : ℕ) (older : List ℕ) → AllByRecursion (λ n. nat_cmp n newest ≡ Less) older → AllByRecursion (λ n. n < newest) older
falling_below newest [] h = tt
falling_below newest (n ∷ ns) h = (less_number n newest h.0, falling_below newest ns h.1)

first_below : (newest : ℕ) (older : List ℕ) → IsFalling (newest ∷ older) → AllByRecursion (λ n. n < newest) older
unfolding IsStrictlySortedBy
first_below newest older h = falling_below newest older h.0

module _ (m : Operation) (run : Contents) (is_run : IsRun run.low run.high run.points run.fragments) (key : List ℕ) (test : ℕ → Bool) where
  abbrev seen : List Write
  seen = map point_write (passing_points run key test) ++ seen_covers key test run.fragments

  seen_is : filter (is_touching key test) (writes_of run) ≡ seen
  seen_is =
      filter-append (is_touching key test) (map point_write run.points) (flat_map fragment_writes run.fragments)
      ∙ ap (λ (ws : List Write). ws ++ seen_covers key test run.fragments) (seen_points key test run.points)

  Apart : Entry → Type 0
  Apart p = AllByRecursion (λ f. covers f p.key ≡ true → ¬ Contains f.seqs p.seq) run.fragments

  apart_point : (newest : ℕ) (older : List ℕ) → passing_seqs run key test ≡ newest ∷ older → (p : Entry) → is_passing key test p ≡ true → Apart p → p.seq ≡ newest → ⊥
  unfolding Apart
  apart_point newest older e p visible apart same =
      let here : AllByRecursion (λ f. covers f key ≡ true → ¬ Contains f.seqs p.seq) run.fragments =
      subst (λ (k : List ℕ). AllByRecursion (λ f. covers f k ≡ true → ¬ Contains f.seqs p.seq) run.fragments) (key_of_passing key test p visible) apart in
      let missing : AllByRecursion (λ n. n ≡ p.seq → ⊥) (newest ∷ older) = subst (AllByRecursion (λ n. n ≡ p.seq → ⊥)) e (missing_over key test p.seq run.fragments is_run.fragments_sorted here) in
      missing.0 (sym same)

  apart_kept : (newest : ℕ) (older : List ℕ) → passing_seqs run key test ≡ newest ∷ older → (p : Entry) (kept : List Entry) (b : Bool) → is_passing key test p ≡ b → Apart p → AllByRecursion (λ q. q.seq ≡ newest → ⊥) kept → AllByRecursion (λ q. q.seq ≡ newest → ⊥) (cond b (p ∷ kept) kept)
  apart_kept newest older e p kept true visible apart h = (apart_point newest older e p visible apart, h)
  apart_kept newest older e p kept false visible apart h = h

  apart_points : (newest : ℕ) (older : List ℕ) → passing_seqs run key test ≡ newest ∷ older → (ps : List Entry) → AllByRecursion (λ p. AllByRecursion (λ f. covers f p.key ≡ true → ¬ Contains f.seqs p.seq) run.fragments) ps → AllByRecursion (λ p. p.seq ≡ newest → ⊥) (filter (is_passing key test) ps)
  unfolding Apart
  apart_points newest older e [] h = tt
  apart_points newest older e (p ∷ ps) h = apart_kept newest older e p (filter (is_passing key test) ps) (is_passing key test p) refl h.0 (apart_points newest older e ps h.1)

  found_by : (seqs : List ℕ) → passing_seqs run key test ≡ seqs → effect_in_turn m (by_seq seen) ≡ above_newest m (passing_points run key test) seqs
  found_by [] e = alone m (passing_points run key test) (passing_fall key test run.points is_run.points_sorted) (seen_covers key test run.fragments) (seqs_of_covers key test run.fragments ∙ e)
  found_by (newest ∷ older) e =
      above m (passing_points run key test) (passing_fall key test run.points is_run.points_sorted) (seen_covers key test run.fragments) newest older
      (seqs_of_covers key test run.fragments ∙ e)
      (first_below newest older (subst IsFalling e (covers_fall key test run.fragments is_run.fragments_sorted (all_map (IsWhole run.low run.high) (λ f. IsFalling f.seqs) (λ f whole. whole.1) run.fragments is_run.whole))))
      (covers_clear key test run.fragments)
      (apart_points newest older e run.points is_run.apart)

  pub found_is : effect_in_turn m (filter (is_touching key test) (plain_list run)) ≡ passing_effect m run key test
  found_is =
      ap (effect_in_turn m) (filter-by_seq (is_touching key test) (writes_of run) ∙ ap by_seq seen_is)
      ∙ found_by (passing_seqs run key test) refl

-- ---- within a stripe

grouped : (a b c : Bool) → (a && (b && c)) ≡ ((a && b) && c)
grouped true b c = refl
grouped false b c = refl

same_filter : (f g : Write → Bool) → ((w : Write) → f w ≡ g w) → (ws : List Write) → filter f ws ≡ filter g ws
same_filter f g same [] = refl
same_filter f g same (w ∷ ws) = ap (λ b. cond b (w ∷ filter f ws) (filter f ws)) (same w) ∙ ap (λ (kept : List Write). cond (g w) (w ∷ kept) kept) (same_filter f g same ws)

pub found_within : (m : Operation) (run : Contents) → IsRun run.low run.high run.points run.fragments → (key : List ℕ) (low high : ℕ) → effect_within m (plain_list run) key low high ≡ passing_effect m run key (λ seq. ltb low seq && leb seq high)
found_within m run is_run key low high =
    ap (effect_in_turn m) (same_filter (λ w. ltb low w.seq && (leb w.seq high && touches_key key w.op)) (is_touching key (λ seq. ltb low seq && leb seq high)) (λ w. grouped (ltb low w.seq) (leb w.seq high) (touches_key key w.op)) (plain_list run))
    ∙ found_is m run is_run key (λ seq. ltb low seq && leb seq high)

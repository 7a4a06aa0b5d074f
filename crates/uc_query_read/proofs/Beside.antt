-- Cursors with their next keys, and facts from those that aren't at a key.
use Rattle.std.proofs.Common.{◌≡◌, ◌≢◌, ℕ, zero, suc, ◌+◌, ◌-◌, ◌<◌, ◌≤◌, arith, Bool, true, false, List, [], ◌∷◌, ◌++◌, map, take, drop, set, length, get_or, max, Contains, Option, Some, None, refl, sym, ap, ◌∙◌, subst, ltb, inl, inr}
use Rattle.std.specs.Prelude.{option_map}
use Rattle.std.specs.List.{AllByRecursion, AllWithin, HoldsAt, slice_get}
use Rattle.std.specs.Ordering.{is_lt, is_le}
use Rattle.std.specs.declared.cmp.Ordering.{Ordering}
use Rattle.std.specs.declared.cmp.Ordering.TheVariants.{Less, Equal, Greater}
use Rattle.std.specs.Cmp.Lexicographic.{bytes_decides}
use Rattle.std.proofs.lemmas.Bool.{false≢true, lt-ltb}
use Rattle.std.proofs.lemmas.List.{get_or-map, get_or_default, set-get_or, map-set}
use Rattle.std.proofs.lemmas.List.Elements.{All-from_recursion}
use Rattle.std.proofs.lemmas.List.Sums.{length-filter}
use Rattle.std.proofs.lemmas.Map.Lookups.{exact_bytes}
use Rattle.std.proofs.lemmas.Option.{slice_get_read, slice_get-map}
use Rattle.uc_bytes.specs.Bytes.{bytes_cmp, same_bytes}
use Rattle.uc_oper.specs.Operation.{Operation}
use Rattle.uc_oper.specs.Composition.{composed}
use Rattle.uc_oper.specs.declared.effect.Effect.{Effect}
use Rattle.uc_oper.specs.declared.effect.Effect.TheVariants.{Keep, Fold, Set}
use Rattle.uc_run_entry.specs.declared.entry.Entry.{Entry}
use Rattle.uc_run_entry.specs.Fragment.{Fragment}
use Rattle.uc_model.specs.Meaning.{effect_on}
use Rattle.uc_run_entry.specs.Run.{Contents, IsRun}
use Rattle.uc_run_entry.specs.PlainList.{plain_list}
use Rattle.uc_run_entry.specs.Seek.{is_passed, seek_place}
use Rattle.uc_run_entry.proofs.Written.{written}
use Rattle.uc_run.specs.Cursors.{Standing, has_ranges}
use Rattle.uc_run.specs.Heads.{next_key, IsFrom, IsAmong, IsLeast}
use Rattle.uc_run.specs.NextKey.{IsLeastKey, IsNextKey}
use Rattle.uc_run.proofs.OtherKeys.{others}
use Rattle.uc_compact.proofs.Stepping.{unwritten}
use Rattle.uc_compact.specs.Inputs.{points_of}
use Rattle.uc_compact.proofs.NestedLists.{all-append}
use Rattle.uc_query_read.specs.Walks.{runs_of, passed, StandsAt, IsOfRun}
use Rattle.uc_query_read.proofs.LeastKeys.{in_front, behind, lower, passed_from}
use Rattle.uc_query_read.proofs.Standing.{same_length}

abbrev pub NextKeysLaw : Type 0
NextKeysLaw = (run : Contents) (low : List ℕ) (strict : Bool) → IsRun run.low run.high run.points run.fragments → IsNextKey run.points low strict (next_key (record { run = run; place = seek_place run.points low strict }))

pub next_is : NextKeysLaw → (low : List ℕ) (strict : Bool) (c : Standing) → IsOfRun c → StandsAt low strict c → IsNextKey c.run.points low strict (next_key c)
next_is law low strict c is at =
    subst (λ n. IsNextKey c.run.points low strict (next_key (record { run = c.run; place = n }))) (sym at) (law c.run low strict is)

-- what holds of all cursors holds of the one at a place
pub of_one : (P : Standing → Type 0) (cs : List Standing) (i : ℕ) (d : Standing) → i < length cs → AllByRecursion P cs → P (get_or cs i d)
of_one P cs i d lt h = All-from_recursion P cs h i d lt

pub none_there : (fs : List Fragment) → ltb 0 (length fs) ≡ false → fs ≡ []
none_there [] e = refl
none_there (f ∷ fs) e = absurd (false≢true (sym e ∙ lt-ltb 0 (suc (length fs)) (omega arith)))

pub then_kept : (m : Operation) (newer : Effect) → newer ≡ composed m Keep newer
then_kept m Keep = refl
then_kept m (Fold x) = refl
then_kept m (Set v) = refl

module _ (keys : List (Option (List ℕ))) (cs : List Standing) (beside : keys ≡ map next_key cs) (i : ℕ) (d : Standing) (lt : i < length cs) where
  key_there : slice_get keys i ≡ Some (next_key (get_or cs i d))
  key_there =
      ap (λ (ks : List (Option (List ℕ))). slice_get ks i) beside
      ∙ slice_get-map next_key cs i
      ∙ ap (option_map next_key) (slice_get_read cs (length cs) i (get_or cs i d) refl lt (get_or_default cs i d (get_or cs i d) lt))

  -- a cursor that isn't found at a key has another next key
  pub is_other : (key : List ℕ) (found : Bool) → (slice_get keys i ≡ Some (Some key) → found ≡ true) → found ≡ false → next_key (get_or cs i d) ≢ Some key
  is_other key found finds not same = false≢true (sym not ∙ finds (key_there ∙ ap (λ (k : Option (List ℕ)). Some k) same))

-- a cursor moves, and its next key with it
pub moved : (keys : List (Option (List ℕ))) (cs : List Standing) (i : ℕ) (c : Standing) (own : Option (List ℕ)) → keys ≡ map next_key cs → own ≡ next_key c → set keys i own ≡ map next_key (set cs i c)
moved keys cs i c own beside is =
    ap (λ (ks : List (Option (List ℕ))). set ks i own) beside
    ∙ ap (λ (k : Option (List ℕ)). set (map next_key cs) i k) is
    ∙ sym (map-set next_key cs i c)

-- no cursor in particular
abbrev pub nowhere : Standing
nowhere = record { run = record { low = 0; high = 0; points = []; fragments = [] }; place = 0 }

abbrev pub KeptLaw : Operation → Type 0
KeptLaw m = (run : Contents) (key : List ℕ) (next : Option (List ℕ)) (at : ℕ) → IsRun run.low run.high run.points run.fragments → IsNextKey run.points key false next → next ≢ Some key → run.fragments ≡ [] → effect_on m (plain_list run) key at ≡ Keep

-- a cursor that isn't at a key, in a run without range deletions: the run does nothing to the key
pub silent : (m : Operation) → KeptLaw m → NextKeysLaw → (cs : List Standing) (key : List ℕ) (at i : ℕ) → i < length cs → AllByRecursion (StandsAt key false) cs → AllByRecursion IsOfRun cs → next_key (get_or cs i nowhere) ≢ Some key → has_ranges (get_or cs i nowhere) ≡ false → Keep ≡ effect_on m (plain_list (get_or cs i nowhere).run) key at
silent m kept law cs key at i lt stand of_runs other none =
    let c = get_or cs i nowhere in
    let is = of_one IsOfRun cs i nowhere lt of_runs in
    sym (kept c.run key (next_key c) at is (next_is law key false c is (of_one (StandsAt key false) cs i nowhere lt stand)) other (none_there c.run.fragments none))

-- ---- passing a key that a cursor isn't at

module _ (key : List ℕ) where
  passed_alike : (x : List ℕ) (o : Ordering) → bytes_cmp x key ≡ o → same_bytes x key ≡ false → is_le o ≡ is_lt o
  passed_alike x Less e other = refl
  passed_alike x Equal e other = absurd (false≢true (sym other ∙ (bytes_decides x key).1 (exact_bytes x key e)))
  passed_alike x Greater e other = refl

  all_alike : (ps : List Entry) → AllByRecursion (λ p. same_bytes p.key key ≡ false) ps → AllByRecursion (λ p. is_passed key true p.key ≡ is_passed key false p.key) ps
  all_alike [] h = tt
  all_alike (p ∷ ps) h = (passed_alike p.key (bytes_cmp p.key key) refl h.0, all_alike ps h.1)

  same_place : (ps : List Entry) → AllByRecursion (λ p. same_bytes p.key key ≡ false) ps → seek_place ps key true ≡ seek_place ps key false
  same_place ps h =
      sym (length-filter (λ p. is_passed key true p.key) ps)
      ∙ same_length (λ p. is_passed key true p.key) (λ p. is_passed key false p.key) ps (all_alike ps h)
      ∙ length-filter (λ p. is_passed key false p.key) ps

  -- it stays
  pub passes_nothing : NextKeysLaw → (c : Standing) → IsOfRun c → StandsAt key false c → next_key c ≢ Some key → passed key c ≡ c
  passes_nothing law c is at other =
      let same : seek_place c.run.points key true ≡ seek_place c.run.points key false = same_place c.run.points (others key c.run.points (next_key c) (next_is law key false c is at) other) in
      let stays : max c.place (seek_place c.run.points key true) ≡ c.place = omega (arith, same, at) in
      ap (λ (n : ℕ). record { run = c.run; place = n }) stays

  -- up to a place all cursors have passed it
  abbrev pub IsPassedTo : List Standing → List Standing → ℕ → Type 0
  IsPassedTo old now i = now ≡ map (passed key) (take i old) ++ drop i old

  module _ (law : NextKeysLaw) (keys : List (Option (List ℕ))) (old now : List Standing) (beside : keys ≡ map next_key now) (stand : AllByRecursion (StandsAt key false) old) (of_runs : AllByRecursion IsOfRun old) (long : length now ≡ length old) where
    unpassed : (i : ℕ) → i < length old → HoldsAt (λ k. k ≢ Some key) keys i → IsPassedTo old now i → IsPassedTo old now (i + 1)
    unpassed i lt other is =
        let c = get_or now i nowhere in
        let lt_now : i < length now = omega (arith, lt, long) in
        let there : get_or keys i None ≡ next_key c = ap (λ (ks : List (Option (List ℕ))). get_or ks i None) beside ∙ get_or-map next_key now i nowhere None lt_now in
        let same : c ≡ get_or old i nowhere = unwritten (passed key) old now i nowhere lt is in
        let stays : passed key c ≡ c =
        passes_nothing law c
        (subst IsOfRun (sym same) (of_one IsOfRun old i nowhere lt of_runs))
        (subst (StandsAt key false) (sym same) (of_one (StandsAt key false) old i nowhere lt stand))
        (λ at. other None (there ∙ at)) in
        sym (set-get_or now i nowhere) ∙ written (passed key) old now i nowhere c lt is (sym stays)

    all_unpassed : (i n : ℕ) → i + n ≤ length old → AllWithin (λ k. k ≢ Some key) keys i (i + n) → IsPassedTo old now i → IsPassedTo old now (i + n)
    all_unpassed i zero le others is = subst (IsPassedTo old now) (omega arith) is
    all_unpassed i (suc n) le others is =
        let same : (i + 1) + n ≡ i + suc n = omega arith in
        subst (IsPassedTo old now) same
        (all_unpassed (i + 1) n (omega (arith, le)) (λ k d from to. others k d (omega (arith, from)) (omega (arith, to)))
        (unpassed i (omega (arith, le)) (λ d. others i d (omega arith) (omega arith)) is))

    -- those that aren't at the key stay
    pub passed_to : (i j : ℕ) → i ≤ j → j ≤ length old → AllWithin (λ k. k ≢ Some key) keys i j → IsPassedTo old now i → IsPassedTo old now j
    passed_to i j le within others is =
        let whole : i + (j - i) ≡ j = omega (arith, le) in
        subst (IsPassedTo old now) whole (all_unpassed i (j - i) (omega (arith, whole, within)) (subst (AllWithin (λ k. k ≢ Some key) keys i) (sym whole) others) is)

-- ---- the least of the next keys

module _ (low : List ℕ) (strict : Bool) where
  abbrev keys_in : List Entry → List (List ℕ)
  keys_in ps = map (λ p. p.key) ps

  abbrev IsAhead : List ℕ → Entry → Type 0
  IsAhead key p = is_passed low strict p.key ≡ false → is_le (bytes_cmp key p.key) ≡ true

  ahead_of_one : (key : List ℕ) (ps : List Entry) (next : Option (List ℕ)) → IsNextKey ps low strict next → IsFrom key next → AllByRecursion (IsAhead key) ps
  ahead_of_one key ps None h from = passed_from low strict key ps h
  ahead_of_one key ps (Some next) h from = lower low strict next key ps from h.least

  all_ahead : NextKeysLaw → (key : List ℕ) (cs : List Standing) → AllByRecursion IsOfRun cs → AllByRecursion (StandsAt low strict) cs → AllByRecursion (IsFrom key) (map next_key cs) → AllByRecursion (IsAhead key) (points_of (runs_of cs))
  all_ahead law key [] of_runs stand from = tt
  all_ahead law key (c ∷ cs) of_runs stand from =
      all-append (IsAhead key) c.run.points (points_of (runs_of cs))
      (ahead_of_one key c.run.points (next_key c) (next_is law low strict c of_runs.0 stand.0) from.0)
      (all_ahead law key cs of_runs.1 stand.1 from.1)

  all_passed : NextKeysLaw → (cs : List Standing) → AllByRecursion IsOfRun cs → AllByRecursion (StandsAt low strict) cs → AllByRecursion (λ key. key ≡ None) (map next_key cs) → AllByRecursion (λ p. is_passed low strict p.key ≡ true) (points_of (runs_of cs))
  all_passed law [] of_runs stand none = tt
  all_passed law (c ∷ cs) of_runs stand none =
      all-append (λ (p : Entry). is_passed low strict p.key ≡ true) c.run.points (points_of (runs_of cs))
      (subst (IsNextKey c.run.points low strict) none.0 (next_is law low strict c of_runs.0 stand.0))
      (all_passed law cs of_runs.1 stand.1 none.1)

  -- a key that is the next one of a cursor
  abbrev IsThere : List ℕ → List Entry → Type 0
  IsThere key ps = Contains (keys_in ps) key × (is_passed low strict key ≡ false)

  one_there : (key : List ℕ) (ps : List Entry) (next : Option (List ℕ)) → next ≡ Some key → IsNextKey ps low strict next → IsThere key ps
  one_there key ps next e h =
      let least : IsLeastKey ps low strict key = subst (IsNextKey ps low strict) e h in
      (least.of_a_point, least.not_passed)

  is_there : NextKeysLaw → (key : List ℕ) (cs : List Standing) → AllByRecursion IsOfRun cs → AllByRecursion (StandsAt low strict) cs → IsAmong key (map next_key cs) → IsThere key (points_of (runs_of cs))
  is_there law key [] of_runs stand among = absurd among
  is_there law key (c ∷ cs) of_runs stand (inl e) =
      let there = one_there key c.run.points (next_key c) e (next_is law low strict c of_runs.0 stand.0) in
      (in_front low strict c.run.points (points_of (runs_of cs)) key there.0, there.1)
  is_there law key (c ∷ cs) of_runs stand (inr among) =
      let there = is_there law key cs of_runs.1 stand.1 among in
      (behind low strict c.run.points (points_of (runs_of cs)) key there.0, there.1)

  pub least_is_next : NextKeysLaw → (cs : List Standing) (least : Option (List ℕ)) → AllByRecursion IsOfRun cs → AllByRecursion (StandsAt low strict) cs → IsLeast (map next_key cs) least → IsNextKey (points_of (runs_of cs)) low strict least
  least_is_next law cs None of_runs stand h = all_passed law cs of_runs stand h
  least_is_next law cs (Some key) of_runs stand h =
      let there = is_there law key cs of_runs stand h.1 in
      record { of_a_point = there.0; not_passed = there.1; least = all_ahead law key cs of_runs stand h.0 }

-- ---- what is known of all cursors stays known

pub moved_of_runs : (f : Standing → Standing) → ((c : Standing) → IsOfRun c → IsOfRun (f c)) → (cs : List Standing) → AllByRecursion IsOfRun cs → AllByRecursion IsOfRun (map f cs)
moved_of_runs f keeps [] h = tt
moved_of_runs f keeps (c ∷ cs) h = (keeps c h.0, moved_of_runs f keeps cs h.1)

-- The oldest run alone says something of the greatest key, on a walk against the order of keys.
use Rattle.std.proofs.Common.{◌≡◌, ◌≢◌, ℕ, zero, suc, ◌<◌, ◌≤◌, min, Bool, true, false, cond, List, [], ◌∷◌, ◌++◌, map, filter, take, set, get_or, length, Option, Some, None, refl, sym, ap, ◌∙◌, subst, arith}
use Rattle.std.specs.List.{AllByRecursion, AllWithin}
use Rattle.std.specs.declared.cmp.Ordering.{Ordering}
use Rattle.std.specs.declared.cmp.Ordering.TheVariants.{Less, Equal, Greater}
use Rattle.std.proofs.lemmas.Map.Lookups.{exact_bytes}
use Rattle.std.specs.Ordering.{is_lt, is_le}
use Rattle.std.specs.BTreeMap.Comparable.{le_lt_trans}
use Rattle.std.proofs.lemmas.Bool.{false≢true}
use Rattle.std.proofs.lemmas.Cmp.{nat_list_cmp_total, tied_itself}
use Rattle.std.proofs.lemmas.List.Elements.{All-contains, All-from_recursion}
use Rattle.std.proofs.lemmas.List.Sums.{length-filter}
use Rattle.uc_bytes.specs.Bytes.{bytes_cmp}
use Rattle.uc_bytes.specs.declared.write.Write.{Write}
use Rattle.uc_oper.specs.Composition.{composed}
use Rattle.uc_oper.specs.Operation.{Operation}
use Rattle.uc_oper.specs.declared.effect.Effect.TheVariants.{Keep}
use Rattle.uc_model.specs.Meaning.{effect_on}
use Rattle.uc_run_entry.specs.declared.entry.Entry.{Entry}
use Rattle.uc_run_entry.specs.Run.{Contents}
use Rattle.uc_run_entry.specs.Seek.{is_passed, seek_place}
use Rattle.uc_run.specs.BackCursors.{is_before, end_place, last_key, IsGreatestKey, IsPreviousKey}
use Rattle.uc_run.specs.Cursors.{Standing, has_ranges}
use Rattle.uc_run.specs.Heads.{next_key}
use Rattle.uc_run.specs.NextKey.{IsLeastKey, IsNextKey}
use Rattle.uc_compact.proofs.Keys.{lt_of}
use Rattle.uc_compact.proofs.Lists.{all-append, all-front, all-back}
use Rattle.uc_compact.proofs.NestedLists.{all-map, all-mapped}
use Rattle.uc_compact.specs.Inputs.{points_of, writes_of}
use Rattle.uc_query_read.specs.Back.{IsOtherBefore, greater_of, is_above_other, passed_back, StandsBelow}
use Rattle.uc_query_read.specs.Walks.{runs_of, IsOfRun, StandsAt}
use Rattle.uc_query_read.proofs.Alone.{all_keep, without_all}
use Rattle.uc_query_read.proofs.Beside.{KeptLaw, NextKeysLaw}
use Rattle.uc_query_read.proofs.Standing.{same_length, more_by}

-- the greater of a key and a lower one
pub greater_is : (key : List ℕ) (other : Option (List ℕ)) → is_above_other key other ≡ true → Some key ≡ greater_of other (Some key)
greater_is key None above = refl
greater_is key (Some other) above = sym (ap (λ b. cond b (Some key) (Some other)) above)

-- what is up to a key that is below a bound is below it
up_to_below : (high : Option (List ℕ)) (key x : List ℕ) → is_before high key ≡ true → is_le (bytes_cmp x key) ≡ true → is_before high x ≡ true
up_to_below None key x below le = refl
up_to_below (Some high) key x below le = ap is_lt (le_lt_trans nat_list_cmp_total x key high le (lt_of key high below))

-- ---- the run whose greatest key it is

module _ (high : Option (List ℕ)) (key : List ℕ) (below : is_before high key ≡ true) where
  same_by : (p : Entry) (b c : Bool) → is_before high p.key ≡ b → is_le (bytes_cmp p.key key) ≡ c → (is_before high p.key ≡ true → is_le (bytes_cmp p.key key) ≡ true) → b ≡ c
  same_by p true c e f up = sym (up e) ∙ f
  same_by p false true e f up = absurd (false≢true (sym e ∙ up_to_below high key p.key below f))
  same_by p false false e f up = refl

  same_one : (p : Entry) → (is_before high p.key ≡ true → is_le (bytes_cmp p.key key) ≡ true) → is_before high p.key ≡ is_passed key true p.key
  same_one p up = same_by p (is_before high p.key) (is_le (bytes_cmp p.key key)) refl refl up

pub after_greatest : (high : Option (List ℕ)) (key : List ℕ) (ps : List Entry) → IsGreatestKey ps high key → end_place ps high ≡ seek_place ps key true
after_greatest high key ps greatest =
    sym (length-filter (λ p. is_before high p.key) ps)
    ∙ same_length (λ p. is_before high p.key) (λ p. is_passed key true p.key) ps
    (all-map (λ (p : Entry). is_before high p.key ≡ true → is_le (bytes_cmp p.key key) ≡ true) (λ (p : Entry). is_before high p.key ≡ is_passed key true p.key) (same_one high key greatest.below) ps greatest.greatest)
    ∙ length-filter (λ p. is_passed key true p.key) ps

-- ---- the other runs, whose keys below the bound are lower

more_each : (f g : Entry → Bool) (ps : List Entry) → AllByRecursion (λ p. f p ≡ true → g p ≡ true) ps → length (filter f ps) ≤ length (filter g ps)
more_each f g [] h = omega arith
more_each f g (p ∷ ps) h = more_by f g p (filter f ps) (filter g ps) (f p) (g p) h.0 (more_each f g ps h.1)

module _ (high : Option (List ℕ)) (key : List ℕ) (below : is_before high key ≡ true) where
  abbrev pub IsLower : List ℕ → Type 0
  IsLower x = is_before high x ≡ true → is_passed key false x ≡ true

  abbrev AreLower : List Entry → Type 0
  AreLower ps = AllByRecursion (λ p. IsLower p.key) ps

  pub are_lower : (greatest : Option (List ℕ)) (ps : List Entry) → is_above_other key greatest ≡ true → IsPreviousKey ps high greatest → AreLower ps
  are_lower None ps above h = all-map (λ (p : Entry). is_before high p.key ≡ false) (λ (p : Entry). IsLower p.key) (λ p out before. absurd (false≢true (sym out ∙ before))) ps h
  are_lower (Some other) ps above h =
      all-map (λ (p : Entry). is_before high p.key ≡ true → is_le (bytes_cmp p.key other) ≡ true) (λ (p : Entry). IsLower p.key)
      (λ p up before. ap is_lt (le_lt_trans nat_list_cmp_total p.key other key (up before) (lt_of other key above))) ps h.greatest

  -- nor has one with another last key, if none has a greater one
  abbrev AtMost : List ℕ → Type 0
  AtMost x = is_before high x ≡ true → is_le (bytes_cmp x key) ≡ true

  less_than : (x : List ℕ) → is_le (bytes_cmp x key) ≡ true → Some x ≢ Some key → is_above_other key (Some x) ≡ true
  less_than x le other = by (bytes_cmp x key) refl le
    where
      by : (o : Ordering) → bytes_cmp x key ≡ o → is_le o ≡ true → is_lt o ≡ true
      by Less e f = refl
      by Equal e f = absurd (other (ap (λ (k : List ℕ). Some k) (exact_bytes x key e)))
      by Greater e f = absurd (false≢true f)

  lower_by : (own : Option (List ℕ)) (ps : List Entry) → IsPreviousKey ps high own → own ≢ Some key → AllByRecursion (λ p. AtMost p.key) ps → AreLower ps
  lower_by None ps before other most = are_lower None ps refl before
  lower_by (Some x) ps before other most =
      let keys = map (λ (p : Entry). p.key) ps in
      let all : AllByRecursion AtMost keys = all-mapped (λ (p : Entry). p.key) AtMost ps most in
      are_lower (Some x) ps (less_than x (All-contains AtMost keys x (All-from_recursion AtMost keys all) before.of_a_point before.below) other) before

  pub newer_lower : (cs : List Standing) (place : ℕ) → AllByRecursion (StandsBelow high) cs → AllByRecursion (λ p. AtMost p.key) (points_of (runs_of cs)) → AllWithin (IsOtherBefore key) cs 0 place → place ≤ length cs → AreLower (points_of (runs_of (take place cs)))
  newer_lower cs zero stand most others within = tt
  newer_lower [] (suc n) stand most others within = tt
  newer_lower (c ∷ cs) (suc n) stand most others within =
      let o = others 0 c (omega arith) (omega arith) in
      let own = lower_by (last_key c) c.run.points (o.last high stand.0) o.other (all-front (λ (p : Entry). AtMost p.key) c.run.points (points_of (runs_of cs)) most) in
      let rest = newer_lower cs n stand.1 (all-back (λ (p : Entry). AtMost p.key) c.run.points (points_of (runs_of cs)) most) (λ i d low l. others (suc i) d (omega arith) (omega (arith, l))) (omega (arith, within)) in
      all-append (λ (p : Entry). IsLower p.key) c.run.points (points_of (runs_of (take n cs))) own rest

  -- a run that has the key as its last
  pub own_greatest : (c : Standing) → StandsBelow high c → IsPreviousKey c.run.points high (Some key) → c.place ≡ seek_place c.run.points key true
  own_greatest c stands own = stands ∙ after_greatest high key c.run.points own

  stays_one : (c : Standing) → StandsBelow high c → AreLower c.run.points → c ≡ passed_back key c
  stays_one c stands lower =
      let ps = c.run.points in
      let le : length (filter (λ p. is_before high p.key) ps) ≤ length (filter (λ p. is_passed key false p.key) ps) = more_each (λ p. is_before high p.key) (λ p. is_passed key false p.key) ps lower in
      let a : length (filter (λ p. is_before high p.key) ps) ≡ end_place ps high = length-filter (λ p. is_before high p.key) ps in
      let b : length (filter (λ p. is_passed key false p.key) ps) ≡ seek_place ps key false = length-filter (λ p. is_passed key false p.key) ps in
      let same : c.place ≡ min c.place (seek_place ps key false) = omega (arith, le, a, b, stands) in
      ap {B = Standing} (λ (n : ℕ). record { run = c.run; place = n }) same

  pub all_stay_back : (cs : List Standing) → AllByRecursion (StandsBelow high) cs → AreLower (points_of (runs_of cs)) → cs ≡ map (passed_back key) cs
  all_stay_back [] stand lower = refl
  all_stay_back (c ∷ cs) stand lower =
      ap (λ (d : Standing). d ∷ cs) (stays_one c stand.0 (all-front (λ (p : Entry). IsLower p.key) c.run.points (points_of (runs_of cs)) lower))
      ∙ ap (λ (ds : List Standing). passed_back key c ∷ ds) (all_stay_back cs stand.1 (all-back (λ (p : Entry). IsLower p.key) c.run.points (points_of (runs_of cs)) lower))

  -- before the points of the key in a run
  abbrev at_key : Standing → Standing
  at_key c = record { run = c.run; place = seek_place c.run.points key false }

  module _ (law : NextKeysLaw) where
    other_one : (c : Standing) → IsOfRun c → AreLower c.run.points → next_key (at_key c) ≢ Some key
    other_one c is lower same =
        let keys = map (λ (p : Entry). p.key) c.run.points in
        let least : IsLeastKey c.run.points key false key = subst (IsNextKey c.run.points key false) same (law c.run key false is) in
        let all : AllByRecursion IsLower keys = all-mapped (λ (p : Entry). p.key) IsLower c.run.points lower in
        let less : is_passed key false key ≡ true = All-contains IsLower keys key (All-from_recursion IsLower keys all) least.of_a_point below in
        false≢true (ap is_lt (sym (tied_itself nat_list_cmp_total key)) ∙ less)

    others : (cs : List Standing) → AllByRecursion IsOfRun cs → AreLower (points_of (runs_of cs)) → AllByRecursion (λ c. next_key c ≢ Some key) (map at_key cs)
    others [] of_runs lower = tt
    others (c ∷ cs) of_runs lower = (
      other_one c of_runs.0 (all-front (λ (p : Entry). IsLower p.key) c.run.points (points_of (runs_of cs)) lower),
      others cs of_runs.1 (all-back (λ (p : Entry). IsLower p.key) c.run.points (points_of (runs_of cs)) lower),
    )

    same_runs : (cs : List Standing) → runs_of (map at_key cs) ≡ runs_of cs
    same_runs [] = refl
    same_runs (c ∷ cs) = ap (λ (rs : List Contents). c.run ∷ rs) (same_runs cs)

    stand_there : (cs : List Standing) → AllByRecursion (StandsAt key false) (map at_key cs)
    stand_there [] = tt
    stand_there (c ∷ cs) = (refl, stand_there cs)

    of_runs_there : (cs : List Standing) → AllByRecursion IsOfRun cs → AllByRecursion IsOfRun (map at_key cs)
    of_runs_there [] h = tt
    of_runs_there (c ∷ cs) h = (h.0, of_runs_there cs h.1)

    plain_there : (cs : List Standing) → AllByRecursion (λ c. has_ranges c ≡ false) cs → AllByRecursion (λ c. has_ranges c ≡ false) (map at_key cs)
    plain_there [] h = tt
    plain_there (c ∷ cs) h = (h.0, plain_there cs h.1)

    -- these do nothing to the key
    pub all_keep_back : (m : Operation) (parts : (older newer : List Write) (key : List ℕ) (at : ℕ) → effect_on m (older ++ newer) key at ≡ composed m (effect_on m older key at) (effect_on m newer key at)) (kept : KeptLaw m) (at : ℕ) (cs : List Standing) → AllByRecursion IsOfRun cs → AllByRecursion (λ c. has_ranges c ≡ false) cs → AreLower (points_of (runs_of cs)) → effect_on m (writes_of (runs_of cs)) key at ≡ Keep
    all_keep_back m parts kept at cs of_runs plain lower =
        ap (λ (rs : List Contents). effect_on m (writes_of rs) key at) (sym (same_runs cs))
        ∙ all_keep m parts kept law key at (map at_key cs) (stand_there cs) (of_runs_there cs of_runs) (others cs of_runs lower) (without_all (map at_key cs) (plain_there cs plain))

-- ---- one cursor moved, and then all

pub map_set : (f : Standing → Standing) (cs : List Standing) (i : ℕ) (d y : Standing) → i < length cs → f y ≡ f (get_or cs i d) → map f (set cs i y) ≡ map f cs
map_set f [] i d y lt e = absurd (omega (arith, lt))
map_set f (x ∷ xs) zero d y lt e = ap (λ (c : Standing). c ∷ map f xs) e
map_set f (x ∷ xs) (suc i) d y lt e = ap (λ (cs : List Standing). f x ∷ cs) (map_set f xs i d y (omega (arith, lt)) e)

pub runs_passed_back : (key : List ℕ) (cs : List Standing) → runs_of (map (passed_back key) cs) ≡ runs_of cs
runs_passed_back key [] = refl
runs_passed_back key (c ∷ cs) = ap (λ (rs : List Contents). c.run ∷ rs) (runs_passed_back key cs)

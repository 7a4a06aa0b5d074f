-- The next keys of the points that are ahead.
use Rattle.std.proofs.Common.{◌≡◌, ◌≢◌, ℕ, zero, suc, ◌+◌, ◌-◌, ◌<◌, ◌≤◌, inl, inr, Bool, true, false, cond, List, [], ◌∷◌, ◌++◌, length, get_or, set, map, take, drop, Option, Some, None, refl, sym, ap, ◌∙◌, subst, arith}
use Rattle.std.specs.List.{AllByRecursion, AllWithin, flat_map}
use Rattle.std.specs.Cmp.Lexicographic.{bytes_decides}
use Rattle.std.proofs.lemmas.List.{get_or-map, map-set, set-get_or}
use Rattle.uc_bytes.specs.Bytes.{same_bytes}
use Rattle.uc_run_entry.specs.declared.entry.Entry.{Entry}
use Rattle.uc_run_entry.proofs.Written.{written}
use Rattle.uc_run.specs.Heads as heads
use Rattle.uc_compact.specs.Heads.{first_key, first_named, IsFrom, IsOther, IsLeast}
use Rattle.uc_compact.specs.Lasting.{with_next, with_lasting}
use Rattle.uc_compact.proofs.Stepping.{gathered}

-- ---- the first keys of lists

pub same_first : (ps : List Entry) → heads.first_key ps ≡ first_key ps
same_first [] = refl
same_first (p ∷ ps) = refl

pub same_firsts : {X : Type 0} (f : X → List Entry) (xs : List X) → map (λ x. heads.first_key (f x)) xs ≡ map first_key (map f xs)
same_firsts f [] = refl
same_firsts f (x ∷ xs) = ap (λ (k : Option (List ℕ)). k ∷ map (λ x. heads.first_key (f x)) xs) (same_first (f x)) ∙ ap (λ (ks : List (Option (List ℕ))). first_key (f x) ∷ ks) (same_firsts f xs)

-- ---- the least of them

none_left : (lists : List (List Entry)) → AllByRecursion (λ key. key ≡ None) (map first_key lists) → AllByRecursion (λ (ps : List Entry). ps ≡ []) lists
none_left [] h = tt
none_left ([] ∷ lists) h = (refl, none_left lists h.1)
none_left ((p ∷ ps) ∷ lists) h = absurd cc

all_from : (key : List ℕ) (lists : List (List Entry)) → AllByRecursion (heads.IsFrom key) (map first_key lists) → AllByRecursion (IsFrom key) lists
all_from key [] h = tt
all_from key ([] ∷ lists) h = (tt, all_from key lists h.1)
all_from key ((p ∷ ps) ∷ lists) h = (h.0, all_from key lists h.1)

not_other : (key : List ℕ) (ps : List Entry) → first_key ps ≡ Some key → IsOther key ps → ⊥
not_other key [] e other = absurd cc
not_other key (p ∷ ps) e other = other cc

not_all_others : (key : List ℕ) (lists : List (List Entry)) → heads.IsAmong key (map first_key lists) → AllByRecursion (IsOther key) lists → ⊥
not_all_others key [] among others = among
not_all_others key (ps ∷ lists) (inl e) others = not_other key ps e others.0
not_all_others key (ps ∷ lists) (inr among) others = not_all_others key lists among others.1

pub least_of_firsts : (lists : List (List Entry)) (least : Option (List ℕ)) → heads.IsLeast (map first_key lists) least → IsLeast lists least
least_of_firsts lists None h = none_left lists h
least_of_firsts lists (Some key) h = (all_from key lists h.0, not_all_others key lists h.1)

-- ---- a cursor moves, and its next key with it

pub moved : (keys : List (Option (List ℕ))) (lists : List (List Entry)) (i : ℕ) (ps : List Entry) (own : Option (List ℕ)) → keys ≡ map first_key lists → own ≡ first_key ps → set keys i own ≡ map first_key (set lists i ps)
moved keys lists i ps own beside is =
    ap (λ (ks : List (Option (List ℕ))). set ks i own) beside
    ∙ ap (λ (k : Option (List ℕ)). set (map first_key lists) i k) is
    ∙ sym (map-set first_key lists i ps)

-- ---- what lasts of points that come in two parts

with_lasting-append : (keeps : List ℕ) (points newer older : List Entry) → with_lasting keeps points (newer ++ older) ≡ with_lasting keeps (with_lasting keeps points newer) older
with_lasting-append keeps points [] older = refl
with_lasting-append keeps points (p ∷ newer) older = with_lasting-append keeps (with_next keeps points p) newer older

-- ---- nothing is taken from one that isn't at the key

module _ (keeps : List ℕ) (key : List ℕ) where
  abbrev left : List Entry → List Entry
  left ps = drop (first_named key ps) ps

  abbrev taken : List Entry → List Entry
  taken ps = take (first_named key ps) ps

  -- up to a place all cursors have moved past the key, and those of its points that last have been taken
  abbrev pub IsTakenTo : List (List Entry) → List (List Entry) → List Entry → List Entry → ℕ → Type 0
  IsTakenTo old now before so_far i = (now ≡ map left (take i old) ++ drop i old) × (so_far ≡ with_lasting keeps before (flat_map taken (take i old)))

  pub gathered_lasting : (old now : List (List Entry)) (i : ℕ) (d before so_far after : List Entry) → i < length old → now ≡ map left (take i old) ++ drop i old → so_far ≡ with_lasting keeps before (flat_map taken (take i old)) → after ≡ with_lasting keeps so_far (taken (get_or now i d)) → after ≡ with_lasting keeps before (flat_map taken (take (i + 1) old))
  gathered_lasting old now i d before so_far after lt is had made =
      let named : List Entry = flat_map taken (take i old) in
      let more : List Entry = taken (get_or now i d) in
      made
      ∙ ap (λ (ps : List Entry). with_lasting keeps ps more) had
      ∙ sym (with_lasting-append keeps before named more)
      ∙ ap (with_lasting keeps before) (gathered left taken old now i d [] named (named ++ more) lt is refl refl)

  unnamed_by : (p : Entry) (ps : List Entry) (b : Bool) → same_bytes p.key key ≡ b → p.key ≢ key → cond b (suc (first_named key ps)) 0 ≡ 0
  unnamed_by p ps true e other = absurd (other ((bytes_decides p.key key).0 e))
  unnamed_by p ps false e other = refl

  unnamed : (ps : List Entry) → first_key ps ≢ Some key → first_named key ps ≡ 0
  unnamed [] other = refl
  unnamed (p ∷ ps) other = unnamed_by p ps (same_bytes p.key key) refl (λ same. other (ap (λ (k : List ℕ). Some k) same))

  module _ (keys : List (Option (List ℕ))) (old now : List (List Entry)) (beside : keys ≡ map first_key now) where
    -- a cursor that isn't at the key stays where it was
    module _ (i : ℕ) (lt : i < length old) (lt_now : i < length now) (other : (d : Option (List ℕ)) → get_or keys i d ≢ Some key) (is : now ≡ map left (take i old) ++ drop i old) where
      abbrev here : List Entry
      here = get_or now i []

      key_here : get_or keys i None ≡ first_key here
      key_here = ap (λ (ks : List (Option (List ℕ))). get_or ks i None) beside ∙ get_or-map first_key now i [] None lt_now

      none : first_named key here ≡ 0
      none = unnamed here (λ same. other None (key_here ∙ same))

      unmoved : now ≡ map left (take (i + 1) old) ++ drop (i + 1) old
      unmoved = sym (set-get_or now i []) ∙ written left old now i [] here lt is (ap (λ n. drop n here) (sym none))

      untaken : (before so_far : List Entry) → so_far ≡ with_lasting keeps before (flat_map taken (take i old)) → so_far ≡ with_lasting keeps before (flat_map taken (take (i + 1) old))
      untaken before so_far had = gathered_lasting old now i [] before so_far so_far lt is had (ap (λ n. with_lasting keeps so_far (take n here)) (sym none))

    passed_by : (i n : ℕ) → i + n ≤ length old → length now ≡ length old → AllWithin (λ k. k ≢ Some key) keys i (i + n) → (before so_far : List Entry) → IsTakenTo old now before so_far i → IsTakenTo old now before so_far (i + n)
    passed_by i zero le long others before so_far h = subst (IsTakenTo old now before so_far) (omega arith) h
    passed_by i (suc n) le long others before so_far h =
        let same : (i + 1) + n ≡ i + suc n = omega arith in
        let lt : i < length old = omega (arith, le) in
        let lt_now : i < length now = omega (arith, le, long) in
        let other = λ (d : Option (List ℕ)). others i d (omega arith) (omega arith) in
        subst (IsTakenTo old now before so_far) same
        (passed_by (i + 1) n (omega (arith, le)) long (λ k d from to. others k d (omega (arith, from)) (omega (arith, to))) before so_far
        (unmoved i lt lt_now other h.0, untaken i lt lt_now other h.0 before so_far h.1))

    -- nor do those between two places, if none of them is at the key
    pub passed_to : (i j : ℕ) → i ≤ j → j ≤ length old → length now ≡ length old → AllWithin (λ k. k ≢ Some key) keys i j → (before so_far : List Entry) → IsTakenTo old now before so_far i → IsTakenTo old now before so_far j
    passed_to i j le within long others before so_far h =
        let whole : i + (j - i) ≡ j = omega (arith, le) in
        subst (IsTakenTo old now before so_far) whole
        (passed_by i (j - i) (omega (arith, whole, within)) long (subst (AllWithin (λ k. k ≢ Some key) keys i) (sym whole) others) before so_far h)

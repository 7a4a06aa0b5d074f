-- Where runs with given ids stand.
use Rattle.std.proofs.Common.{◌≡◌, ℕ, zero, suc, ◌+◌, ◌<◌, ◌≤◌, Bool, true, false, cond, eqb, leb, ◌-◌, List, [], ◌∷◌, ◌++◌, length, get_or, take, drop, map, refl, sym, ap, ◌∙◌, subst, eq-eqb, ne_eqb, ⊎_elim, arith}
use Rattle.std.proofs.lemmas.Bool.Decides.{nat_tests}
use Rattle.std.proofs.lemmas.List.{drop_more, drop_all, take_more, take_all, map-append, length-map, length-take, length-drop}
use Rattle.uc_claims.specs.Claims.{times}
use Rattle.uc_claims.proofs.Times.{times-append, times-distinct, times-from_Contains}
use Rattle.uc_version_state.specs.Versions.{PlacedRun, Stored, IsVersion, ids_of}
use Rattle.uc_version_state.specs.Installs.{place_of, part_of, newest_id, standing, behind}
use Rattle.uc_version_state.proofs.Once.{alone}

-- ---- the place of an id, run by run

module _ (id : ℕ) (runs : List PlacedRun) (i : ℕ) (d : PlacedRun) (lt : i < length runs) (so_far : place_of id runs ≡ i + place_of id (drop i runs)) where
  here : place_of id runs ≡ i + place_of id (get_or runs i d ∷ drop (i + 1) runs)
  here = so_far ∙ ap (λ (ps : List PlacedRun). i + place_of id ps) (drop_more runs i d lt)

  pub found_here : (get_or runs i d).id ≡ id → place_of id runs ≡ i
  found_here same =
      here ∙ ap (λ b. i + cond b 0 (suc (place_of id (drop (i + 1) runs)))) (eq-eqb (get_or runs i d).id id same) ∙ omega arith

  pub not_here : ((get_or runs i d).id ≡ id → ⊥) → place_of id runs ≡ i + 1 + place_of id (drop (i + 1) runs)
  not_here other =
      here ∙ ap (λ b. i + cond b 0 (suc (place_of id (drop (i + 1) runs)))) (ne_eqb (get_or runs i d).id id other) ∙ omega arith

pub nowhere : (id : ℕ) (runs : List PlacedRun) (i : ℕ) → length runs ≤ i → i ≤ length runs → place_of id runs ≡ i + place_of id (drop i runs) → place_of id runs ≡ length runs
nowhere id runs i le ge so_far =
    so_far ∙ ap (λ (ps : List PlacedRun). i + place_of id ps) (drop_all i runs le) ∙ omega (arith, le, ge)

pub place_within : (id : ℕ) (runs : List PlacedRun) → place_of id runs ≤ length runs
place_within id [] = omega arith
place_within id (p ∷ ps) = by_test (eqb p.id id) (place_within id ps)
  where
    by_test : (b : Bool) → place_of id ps ≤ length ps → cond b 0 (suc (place_of id ps)) ≤ suc (length ps)
    by_test true le = omega arith
    by_test false le = omega (arith, le)

-- ---- ids one by one

at_map : {X Y : Type 0} (f : X → Y) (xs : List X) (i : ℕ) (y : Y) (d : X) → i < length xs → get_or (map f xs) i y ≡ f (get_or xs i d)
at_map f [] i y d lt = absurd (omega (arith, lt))
at_map f (x ∷ xs) zero y d lt = refl
at_map f (x ∷ xs) (suc i) y d lt = at_map f xs i y d (omega (arith, lt))

module _ (runs : List PlacedRun) (ids : List ℕ) (i : ℕ) (d : PlacedRun) (lt : i < length runs) (long : length runs ≡ length ids) where
  -- one that differs
  pub not_ids : ((get_or runs i d).id ≡ get_or ids i 0 → ⊥) → ids_of runs ≡ ids → ⊥
  not_ids differs same =
      differs (sym (at_map (λ (p : PlacedRun). p.id) runs i 0 d lt) ∙ ap (λ (xs : List ℕ). get_or xs i 0) same)

  -- one more that is the same
  pub ids_on : ids_of (take i runs) ≡ take i ids → (get_or runs i d).id ≡ get_or ids i 0 → ids_of (take (i + 1) runs) ≡ take (i + 1) ids
  ids_on so_far same =
      ap ids_of (take_more runs i d lt)
      ∙ map-append (λ (p : PlacedRun). p.id) (take i runs) (get_or runs i d ∷ [])
      ∙ ap (λ (xs : List ℕ). xs ++ (get_or runs i d).id ∷ []) so_far
      ∙ ap (λ x. take i ids ++ x ∷ []) same
      ∙ sym (take_more ids i 0 (omega (arith, lt, long)))

pub all_ids : (runs : List PlacedRun) (ids : List ℕ) (i : ℕ) → length runs ≤ i → length runs ≡ length ids → ids_of (take i runs) ≡ take i ids → ids_of runs ≡ ids
all_ids runs ids i all long same = ap ids_of (sym (take_all i runs all)) ∙ same ∙ take_all i ids (omega (arith, all, long))

pub other_length : (runs : List PlacedRun) (ids : List ℕ) → (length runs ≡ length ids → ⊥) → ids_of runs ≡ ids → ⊥
other_length runs ids other same = other (sym (length-map runs (λ (p : PlacedRun). p.id)) ∙ ap (λ (xs : List ℕ). length xs) same)

-- ---- a stretch whose ids are known

one_itself : (x : ℕ) → times x (x ∷ []) ≡ 1
one_itself x =
    ⊎_elim (λ (s : (x ≡ x) × (times x (x ∷ []) ≡ 1)). s.1)
    (λ (o : times x (x ∷ []) ≡ 0). let here = times-from_Contains x (x ∷ []) (0, omega arith, refl) in absurd (omega (arith, o, here))) (alone x x)

newest_there : (runs : List PlacedRun) (first count : ℕ) → first < length runs → 0 < count → 0 < times (newest_id (ids_of (part_of first count runs))) (ids_of runs)
newest_there [] first count lt some = absurd (omega (arith, lt))
newest_there (p ∷ ps) zero zero lt some = absurd (omega (arith, some))
newest_there (p ∷ ps) zero (suc count) lt some = let e = times-append p.id (p.id ∷ []) (ids_of ps) in let one = one_itself p.id in omega (arith, e, one)
newest_there (p ∷ ps) (suc first) count lt some =
    let x = newest_id (ids_of (part_of first count ps)) in
    let e = times-append x (p.id ∷ []) (ids_of ps) in
    let rest = newest_there ps first count (omega (arith, lt)) some in
    omega (arith, e, rest)

-- the run that a stretch begins with stands where the stretch does
pub place_is : (runs : List PlacedRun) (first count : ℕ) → ((k : ℕ) → times k (ids_of runs) ≤ 1) → first < length runs → 0 < count → place_of (newest_id (ids_of (part_of first count runs))) runs ≡ first
place_is [] first count once lt some = absurd (omega (arith, lt))
place_is (p ∷ ps) zero zero once lt some = absurd (omega (arith, some))
place_is (p ∷ ps) zero (suc count) once lt some = ap (λ b. cond b 0 (suc (place_of p.id ps))) (eq-eqb p.id p.id refl)
place_is (p ∷ ps) (suc first) count once lt some =
    ap (λ b. cond b 0 (suc (place_of (newest_id (ids_of (part_of first count ps))) ps))) (ne_eqb p.id (newest_id (ids_of (part_of first count ps))) other)
    ∙ ap suc (place_is ps first count (λ k. let le = once k in let e = times-append k (p.id ∷ []) (ids_of ps) in omega (arith, le, e)) (omega (arith, lt)) some)
  where
    other : p.id ≡ newest_id (ids_of (part_of first count ps)) → ⊥
    other e =
        let there = newest_there ps first count (omega (arith, lt)) some in
        let here : 0 < times p.id (ids_of ps) = subst (λ x. 0 < times x (ids_of ps)) (sym e) there in
        let le = once p.id in
        let both = times-append p.id (p.id ∷ []) (ids_of ps) in
        let one = one_itself p.id in
        omega (arith, here, le, both, one)

-- ids of a part: as many as it has runs
pub part_count : (runs : List PlacedRun) (first : ℕ) (ids : List ℕ) → first ≤ length runs → ids_of (part_of first (length ids) runs) ≡ ids → first + length ids ≤ length runs
part_count runs first ids within same =
    let named = sym (length-map (part_of first (length ids) runs) (λ (p : PlacedRun). p.id)) ∙ ap (λ (xs : List ℕ). length xs) same in
    let taken = length-take (length ids) (drop first runs) in
    let dropped = length-drop first runs in
    omega (arith, within, named, taken, dropped)

module _ (v : Stored) (is_version : IsVersion v) (ids : List ℕ) where
  -- if they aren't after the place of the newest, they are nowhere
  pub stand_nowhere : (ids_of (standing ids v.runs) ≡ ids → ⊥) → (first : ℕ) → ids_of (part_of first (length ids) v.runs) ≡ ids → ⊥
  stand_nowhere missing first same = by_count (length ids) refl
    where
      none_there : (n : ℕ) → n ≡ 0 → ids_of (take n (drop (place_of (newest_id ids) v.runs) v.runs)) ≡ []
      none_there zero e = refl
      none_there (suc n) e = absurd (omega (arith, e))

      no_ids : (xs : List ℕ) → length xs ≡ 0 → xs ≡ []
      no_ids [] e = refl
      no_ids (x ∷ xs) e = absurd (omega (arith, e))

      by_count : (n : ℕ) → length ids ≡ n → ⊥
      by_count zero none = missing (none_there (length ids) none ∙ sym (no_ids ids none))
      by_count (suc n) some =
          let named = sym (length-map (part_of first (length ids) v.runs) (λ (p : PlacedRun). p.id)) ∙ ap (λ (xs : List ℕ). length xs) same in
          let taken = length-take (length ids) (drop first v.runs) in
          let dropped = length-drop first v.runs in
          let lt : first < length v.runs = omega (arith, some, named, taken, dropped) in
          let place = place_is v.runs first (length ids) (λ k. times-distinct (ids_of v.runs) is_version.ids_apart k) lt (omega (arith, some)) in
          let at : place_of (newest_id ids) v.runs ≡ first = ap (λ (xs : List ℕ). place_of (newest_id xs) v.runs) (sym same) ∙ place in
          missing (ap (λ n. ids_of (part_of n (length ids) v.runs)) at ∙ same)

  -- neighbours stand where the newest of their ids does
  module _ (first count : ℕ) (some : 0 < count) (within : first + count ≤ length v.runs) (are : ids ≡ ids_of (part_of first count v.runs)) where
    pub first_is : place_of (newest_id ids) v.runs ≡ first
    first_is =
        ap (λ (xs : List ℕ). place_of (newest_id xs) v.runs) are
        ∙ place_is v.runs first count (λ k. times-distinct (ids_of v.runs) is_version.ids_apart k) (omega (arith, some, within)) some

    pub count_is : length ids ≡ count
    count_is =
        let named = ap (λ (xs : List ℕ). length xs) are ∙ length-map (part_of first count v.runs) (λ (p : PlacedRun). p.id) in
        let taken = length-take count (drop first v.runs) in
        let dropped = length-drop first v.runs in
        omega (arith, within, named, taken, dropped)

    pub standing_is : standing ids v.runs ≡ part_of first count v.runs
    standing_is = ap (λ n. part_of n (length ids) v.runs) first_is ∙ ap (λ n. part_of first n v.runs) count_is

    pub behind_is : behind ids v.runs ≡ drop (first + count) v.runs
    behind_is = ap (λ n. drop (n + length ids) v.runs) first_is ∙ ap (λ n. drop (first + n) v.runs) count_is

-- nothing comes after them exactly if they reach the end
pub last_if : (runs : List PlacedRun) (ids : List ℕ) (newest place : ℕ) → newest ≡ newest_id ids → place ≡ place_of newest runs → place ≤ length runs →
    (leb (length runs - place) (length ids) ≡ true → behind ids runs ≡ []) × (behind ids runs ≡ [] → leb (length runs - place) (length ids) ≡ true)
last_if runs ids newest place newest_is place_is within = (
  (λ test. let le = ends (length runs - place) (length ids) test in ap (λ n. drop (n + length ids) runs) (sym at) ∙ drop_all (place + length ids) runs (omega (arith, le, within))),
  (λ none.
      let dropped = length-drop (place + length ids) runs in
      let gone : length (drop (place + length ids) runs) ≡ 0 = ap (λ n. length (drop (n + length ids) runs)) at ∙ ap (λ (ps : List PlacedRun). length ps) none in
      reaches (length runs - place) (length ids) (omega (arith, dropped, gone))),
)
  where
    at : place ≡ place_of (newest_id ids) runs
    at = place_is ∙ ap (λ id. place_of id runs) newest_is

    ends : (n m : ℕ) → leb n m ≡ true → n ≤ m
    ends n m test = grind (arith, nat_tests)

    reaches : (n m : ℕ) → n ≤ m → leb n m ≡ true
    reaches n m le = grind (arith, nat_tests)

-- Where held stretches stand when neighbouring runs became one.
use Rattle.std.proofs.Common.{◌≡◌, ℕ, zero, suc, ◌+◌, ◌-◌, ◌<◌, ◌≤◌, Bool, true, false, cond, ltb, List, [], ◌∷◌, ◌++◌, length, get_or, set, take, drop, map, ◌⊎◌, inl, inr, ⊎_elim, refl, sym, ap, ◌∙◌, subst, arith}
use Rattle.std.specs.Prelude.{Option, Some, None}
use Rattle.std.specs.List.{AllByRecursion, flat_map}
use Rattle.std.proofs.lemmas.Bool.Decides.{nat_tests}
use Rattle.std.proofs.lemmas.Bool.{cases_lt}
use Rattle.std.proofs.lemmas.List.{get_or-set_other, length-append, length-map, length-set, length-take-le, length-drop, take-append-drop, take-append-le, drop-append-le, drop-drop}
use Rattle.std.proofs.Math.Seq.{drop-append-add}
use Rattle.uc_claims.specs.Claims.{times}
use Rattle.uc_claims.specs.Holding.{without}
use Rattle.uc_claims.proofs.Times.{times-append, times-from_Contains}
use Rattle.uc_run_entry.specs.Run.{Contents}
use Rattle.uc_version_state.specs.Versions.{PlacedRun, Stored, IsVersion, ids_of, slots_of}
use Rattle.uc_version_state.specs.Installs.{part_of, newest_id, slot_of, replaced}
use Rattle.uc_version_state.proofs.Once.{distinct-from_times}
use Rattle.uc_version.specs.declared.held_stretch.HeldStretch.{HeldStretch}
use Rattle.uc_version.specs.Owners.{Owner, IsOwner, last_id, Stands, runs_held, slots_held, claimed_slots}
use Rattle.uc_version.specs.Installing.{moved_up}
use Rattle.uc_version.proofs.HeldClaims.{claimed_once, all-set, all_at, held_below}
use Rattle.uc_version.proofs.Taking.{stands, less_claimed, same_less}

-- a run of a stretch has its slot among the stretch's
slot_in : (runs : List PlacedRun) (first count p : ℕ) (d : PlacedRun) → first ≤ p → p < first + count → p < length runs → 0 < times (get_or runs p d).slot (slots_of (part_of first count runs))
slot_in [] first count p d le lt room = absurd (omega (arith, room))
slot_in (r ∷ rs) zero zero p d le lt room = absurd (omega (arith, lt))
slot_in (r ∷ rs) zero (suc count) zero d le lt room = times-from_Contains r.slot (r.slot ∷ slots_of (take count rs)) (0, omega arith, refl)
slot_in (r ∷ rs) zero (suc count) (suc p) d le lt room =
    let x = (get_or rs p d).slot in
    let e = times-append x (r.slot ∷ []) (slots_of (take count rs)) in
    let rest = slot_in rs zero count p d (omega arith) (omega (arith, lt)) (omega (arith, room)) in
    omega (arith, e, rest)
slot_in (r ∷ rs) (suc first) count zero d le lt room = absurd (omega (arith, le))
slot_in (r ∷ rs) (suc first) count (suc p) d le lt room = slot_in rs first count p d (omega (arith, le)) (omega (arith, lt)) (omega (arith, room))

some_run : (runs : List PlacedRun) (p : ℕ) → p < length runs → PlacedRun
some_run [] p lt = absurd (omega (arith, lt))
some_run (r ∷ rs) p lt = r

-- the runs of a claim, if it is held
abbrev pub runs_in : Stored → Option HeldStretch → List PlacedRun
runs_in v None = []
runs_in v (Some h) = runs_held v h

-- two stretches without a slot of both don't overlap
lie_apart : (v : Stored) (g h : HeldStretch) → 2 ≤ g.count → g.first + g.count ≤ length v.runs → 2 ≤ h.count → h.first + h.count ≤ length v.runs →
    ((k : ℕ) → times k (slots_of (runs_held v g)) + times k (slots_of (runs_held v h)) ≤ 1) → (g.first + g.count ≤ h.first) ⊎ (h.first + h.count ≤ g.first)
lie_apart v g h g_two g_within h_two h_within once =
    ⊎_elim
    (λ (before : h.first < g.first + g.count).
    ⊎_elim
    (λ (behind : g.first < h.first + h.count). absurd (by_place before behind (cases_lt g.first h.first)))
    (λ (le : h.first + h.count ≤ g.first). inr le) (cases_lt g.first (h.first + h.count)))
    (λ (le : g.first + g.count ≤ h.first). inl le) (cases_lt h.first (g.first + g.count))
  where
    both_in : (p : ℕ) → g.first ≤ p → p < g.first + g.count → h.first ≤ p → p < h.first + h.count → ⊥
    both_in p ga gb ha hb =
        let room : p < length v.runs = omega (arith, gb, g_within) in
        let d = some_run v.runs p room in
        let one = slot_in v.runs g.first g.count p d ga gb room in
        let other = slot_in v.runs h.first h.count p d ha hb room in
        let le = once (get_or v.runs p d).slot in
        omega (arith, one, other, le)

    by_place : h.first < g.first + g.count → g.first < h.first + h.count → (g.first < h.first) ⊎ (h.first ≤ g.first) → ⊥
    by_place before behind (inl lt) = both_in h.first (omega (arith, lt)) before (omega arith) (omega (arith, h_two))
    by_place before behind (inr le) = both_in g.first (omega arith) (omega (arith, g_two)) le behind

part_front : (xs ys : List PlacedRun) (first count : ℕ) → first + count ≤ length xs → part_of first count (xs ++ ys) ≡ part_of first count xs
part_front xs ys first count within =
    ap (take count) (drop-append-le first xs ys (omega (arith, within)))
    ∙ take-append-le count (drop first xs) ys (let e = length-drop first xs in omega (arith, e, within))

module _ (v : Stored) (h : HeldStretch) (two : 2 ≤ h.count) (within : h.first + h.count ≤ length v.runs) (run : Contents) where
  abbrev v' : Stored
  v' = replaced h.first h.count run v

  abbrev new : PlacedRun
  new = record { id = v.next_id; slot = slot_of (part_of h.first h.count v.runs); run = run }

  front_length : length (take h.first v.runs) ≡ h.first
  front_length = length-take-le h.first v.runs (omega (arith, within))

  length_after : length v'.runs + h.count ≡ length v.runs + 1
  length_after =
      let a = length-append (take h.first v.runs) (new ∷ drop (h.first + h.count) v.runs) in
      let b = length-drop (h.first + h.count) v.runs in
      let f = front_length in
      omega (arith, a, b, f, within)

  part_before : (first count : ℕ) → first + count ≤ h.first → part_of first count v'.runs ≡ part_of first count v.runs
  part_before first count le =
      part_front (take h.first v.runs) (new ∷ drop (h.first + h.count) v.runs) first count (let f = front_length in omega (arith, f, le))
      ∙ sym (part_front (take h.first v.runs) (drop h.first v.runs) first count (let f = front_length in omega (arith, f, le)))
      ∙ ap (part_of first count) (take-append-drop h.first v.runs)

  drop_behind : (n : ℕ) → drop (h.first + (1 + n)) v'.runs ≡ drop (h.first + h.count + n) v.runs
  drop_behind n =
      ap (λ k. drop (k + (1 + n)) v'.runs) (sym front_length)
      ∙ drop-append-add (take h.first v.runs) (new ∷ drop (h.first + h.count) v.runs) (1 + n)
      ∙ ap (λ k. drop k (new ∷ drop (h.first + h.count) v.runs)) (next n)
      ∙ drop-drop n (h.first + h.count) v.runs
    where
      next : (k : ℕ) → 1 + k ≡ suc k
      next k = omega arith

  part_after : (first count : ℕ) → h.first + h.count ≤ first → part_of (first - (h.count - 1)) count v'.runs ≡ part_of first count v.runs
  part_after first count le =
      ap (λ n. part_of n count v'.runs) (moved first le) ∙ ap (take count) (drop_behind (first - (h.first + h.count))) ∙ ap (λ n. part_of n count v.runs) (back first le)
    where
      moved : (f : ℕ) → h.first + h.count ≤ f → f - (h.count - 1) ≡ h.first + (1 + (f - (h.first + h.count)))
      moved f l = omega (arith, l, two)

      back : (f : ℕ) → h.first + h.count ≤ f → h.first + h.count + (f - (h.first + h.count)) ≡ f
      back f l = omega (arith, l)

  -- a claim that stays has its runs and their slots, and stands
  record Stays (c : Option HeldStretch) : Type 0 where
    runs : runs_in v' (moved_up h.first h.count c) ≡ runs_in v c
    slots : slots_held v' (moved_up h.first h.count c) ≡ slots_held v c
    stands_on : Stands v' (moved_up h.first h.count c)

  stays : (c : Option HeldStretch) → Stands v c → ((k : ℕ) → times k (slots_held v c) + times k (slots_of (runs_held v h)) ≤ 1) → Stays c
  stays None stand once = record { runs = refl; slots = refl; stands_on = tt }
  stays (Some g) stand once =
      ⊎_elim
      (λ (le : g.first + g.count ≤ h.first).
      let same : moved_up h.first h.count (Some g) ≡ Some g = stays_there (ltb h.first g.first) (not_behind le) in
      let kept = part_before g.first g.count le in
      record {
        runs = ap (runs_in v') same ∙ kept;
        slots = ap (slots_held v') same ∙ ap slots_of kept;
        stands_on = subst (Stands v') (sym same) (stand.0, (let l = length_after in omega (arith, l, le, two, within)), notes_on (part_of g.first g.count v'.runs) kept);
      })
      (λ (le : h.first + h.count ≤ g.first).
      let same : moved_up h.first h.count (Some g) ≡ Some (record g { first = g.first - (h.count - 1) }) = moves (ltb h.first g.first) (is_behind le) in
      let kept = part_after g.first g.count le in
      record {
        runs = ap (runs_in v') same ∙ kept;
        slots = ap (slots_held v') same ∙ ap slots_of kept;
        stands_on = subst (Stands v') (sym same) (stand.0, (let l = length_after in let w = stand.1 in omega (arith, l, le, two, w)), notes_on (part_of (g.first - (h.count - 1)) g.count v'.runs) kept);
      })
      (lie_apart v g h stand.0 stand.1 two within once)
    where
      notes_on : (ps : List PlacedRun) → ps ≡ runs_held v g → (g.newest ≡ newest_id (ids_of ps)) × (g.oldest ≡ last_id (ids_of ps))
      notes_on ps same =
          (stand.2.0 ∙ ap (λ (qs : List PlacedRun). newest_id (ids_of qs)) (sym same), stand.2.1 ∙ ap (λ (qs : List PlacedRun). last_id (ids_of qs)) (sym same))

      not_behind : g.first + g.count ≤ h.first → ltb h.first g.first ≡ false
      not_behind le = let l : g.first ≤ h.first = omega (arith, le) in grind (arith, nat_tests)

      is_behind : h.first + h.count ≤ g.first → ltb h.first g.first ≡ true
      is_behind le = let l : h.first < g.first = omega (arith, le, two) in grind (arith, nat_tests)

      stays_there : (b : Bool) → b ≡ false → cond b (Some (record g { first = g.first - (h.count - 1) })) (Some g) ≡ Some g
      stays_there false e = refl
      stays_there true e = absurd cc

      moves : (b : Bool) → b ≡ true → cond b (Some (record g { first = g.first - (h.count - 1) })) (Some g) ≡ Some (record g { first = g.first - (h.count - 1) })
      moves true e = refl
      moves false e = absurd cc

  all_stay : (cs : List (Option HeldStretch)) → AllByRecursion (Stands v) cs → ((k : ℕ) → times k (flat_map (slots_held v) cs) + times k (slots_of (runs_held v h)) ≤ 1) → AllByRecursion Stays cs
  all_stay [] stand once = tt
  all_stay (c ∷ cs) stand once = (
    stays c stand.0 (λ k. let e = times-append k (slots_held v c) (flat_map (slots_held v) cs) in let le = once k in omega (arith, e, le)),
    all_stay cs stand.1 (λ k. let e = times-append k (slots_held v c) (flat_map (slots_held v) cs) in let le = once k in omega (arith, e, le)),
  )

  slots_stay : (cs : List (Option HeldStretch)) → AllByRecursion Stays cs → flat_map (slots_held v') (map (moved_up h.first h.count) cs) ≡ flat_map (slots_held v) cs
  slots_stay [] all = refl
  slots_stay (c ∷ cs) all =
      ap (λ (s : List ℕ). s ++ flat_map (slots_held v') (map (moved_up h.first h.count) cs)) all.0.slots ∙ ap (λ (s : List ℕ). slots_held v c ++ s) (slots_stay cs all.1)

  stand_on : (cs : List (Option HeldStretch)) → AllByRecursion Stays cs → AllByRecursion (Stands v') (map (moved_up h.first h.count) cs)
  stand_on [] all = tt
  stand_on (c ∷ cs) all = (all.0.stands_on, stand_on cs all.1)

module _ (o : Owner) (is_owner : IsOwner o) (held : List ℕ) (same : (k : ℕ) → times k held ≡ times k (claimed_slots o)) (n : ℕ) (h : HeldStretch) (held_is : get_or o.claims n None ≡ Some h) (run : Contents) where
  abbrev pub after : Owner
  after = record o { version = replaced h.first h.count run o.version; claims = map (moved_up h.first h.count) (set o.claims n None) }

  is_there : (2 ≤ h.count) × (h.first + h.count ≤ length o.version.runs)
  is_there = stands o is_owner held same n h held_is

  once : (k : ℕ) → times k (flat_map (slots_held o.version) (set o.claims n None)) + times k (slots_of (runs_held o.version h)) ≤ 1
  once k = let e = less_claimed o is_owner held same n h held_is k in let le = claimed_once o is_owner k in omega (arith, e, le)

  all : AllByRecursion (Stays o.version h is_there.0 is_there.1 run) (set o.claims n None)
  all = all_stay o.version h is_there.0 is_there.1 run (set o.claims n None) (all-set o.version (Stands o.version) o.claims n None is_owner.stand tt) once

  pub slots_after : (k : ℕ) → times k (without (slots_of (runs_held o.version h)) held) ≡ times k (claimed_slots after)
  slots_after k = same_less o is_owner held same n h held_is k ∙ ap (times k) (sym (slots_stay o.version h is_there.0 is_there.1 run (set o.claims n None) all))

  pub owner_after : IsVersion (replaced h.first h.count run o.version) → IsOwner after
  owner_after is_version = record {
    version = is_version;
    options_good = is_owner.options_good;
    numbers = length-map (set o.claims n None) (moved_up h.first h.count) ∙ length-set o.claims n None ∙ is_owner.numbers;
    stand = stand_on o.version h is_there.0 is_there.1 run (set o.claims n None) all;
    apart = distinct-from_times (claimed_slots after) (λ k. let e = ap (times k) (slots_stay o.version h is_there.0 is_there.1 run (set o.claims n None) all) in let le = once k in omega (arith, e, le));
  }

  at_map : (f : Option HeldStretch → Option HeldStretch) → f None ≡ None → (cs : List (Option HeldStretch)) (i : ℕ) → get_or (map f cs) i None ≡ f (get_or cs i None)
  at_map f none [] i = sym none
  at_map f none (c ∷ cs) zero = refl
  at_map f none (c ∷ cs) (suc i) = at_map f none cs i

  -- another claim keeps its runs
  pub keeps_runs : (k : ℕ) (g : HeldStretch) → (n ≡ k → ⊥) → get_or o.claims k None ≡ Some g →
      runs_in after.version (get_or after.claims k None) ≡ runs_held o.version g
  keeps_runs k g other here =
      ap (runs_in after.version) (at_map (moved_up h.first h.count) refl (set o.claims n None) k)
      ∙ (all_at o.version (Stays o.version h is_there.0 is_there.1 run) (set o.claims n None) k all there).runs
      ∙ ap (runs_in o.version) still
    where
      still : get_or (set o.claims n None) k None ≡ Some g
      still = get_or-set_other o.claims n k None None (λ e. other (sym e)) ∙ here

      there : k < length (set o.claims n None)
      there = held_below o.version (set o.claims n None) k g still

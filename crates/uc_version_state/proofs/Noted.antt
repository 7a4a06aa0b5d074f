-- Runs that were noted in a version, and what is known of them in every later one.
use Rattle.std.proofs.Common.{◌≡◌, ℕ, ◌+◌, ◌<◌, ◌≤◌, true, eqb, List, [], ◌∷◌, ◌++◌, Contains, length, take, drop, fold, refl, sym, ap, ◌∙◌, subst, arith}
use Rattle.std.specs.List.{AllByRecursion}
use Rattle.std.proofs.lemmas.Bool.{eqb-true, and_parts}
use Rattle.std.proofs.lemmas.List.Elements.{All-contains, All-from_recursion}
use Rattle.std.proofs.lemmas.List.{length-map, length-take-le, length-drop, take-append-drop}
use Rattle.uc_oper.specs.Operation.{Operation, IsLawful}
use Rattle.uc_model.proofs.Members.{contains_first, contains_later}
use Rattle.uc_claims.specs.declared.table.TheConstants.{MOST_SLOTS}
use Rattle.uc_compact.proofs.NestedLists.{all-map}
use Rattle.uc_version_state.specs.Versions.{PlacedRun, Stored, IsVersion, ids_of, slots_of}
use Rattle.uc_version_state.specs.Openings.{opened}
use Rattle.uc_version_state.specs.Installs.{part_of, place_of, newest_id, standing}
use Rattle.uc_version_state.specs.declared.event.Event.{Event}
use Rattle.uc_version_state.specs.Histories.{after, History, IsLegal, version_after}
use Rattle.uc_version_state.proofs.Parts.{in_parts, all-front, all-behind}
use Rattle.uc_version_state.proofs.Placing.{FlushesAreRuns}
use Rattle.uc_version_state.proofs.Along.{is_version}
use Rattle.uc_version_state.proofs.SameRuns.{ids_rise, same_run, was_there, begins, fold-behind}
use Rattle.uc_version_state.proofs.Found.{place_within, part_count, standing_is}
use Rattle.uc_version_state.specs.Machine.{version_at, IsStretch, have_ids, still_stand}
use Rattle.uc_version_state.proofs.Places.{Stands}

-- ---- lists

all_from : {X : Type 0} (P : X → Type 0) (xs : List X) → ((x : X) → Contains xs x → P x) → AllByRecursion P xs
all_from P [] each = tt
all_from P (x ∷ xs) each = (each x (contains_first x x xs refl), all_from P xs (λ y has. each y (contains_later x y xs has)))

-- what holds of all runs holds of neighbouring ones
all_part : (P : PlacedRun → Type 0) (runs : List PlacedRun) (first count : ℕ) → AllByRecursion P runs → AllByRecursion P (part_of first count runs)
all_part P runs first count all =
    all-front P (part_of first count runs) (drop (first + count) runs)
    (all-behind P (take first runs) (part_of first count runs ++ drop (first + count) runs)
    (subst (λ (ps : List PlacedRun). AllByRecursion P ps) (sym (in_parts first count runs)) all))

-- ---- what is known of a run

-- its id was given, no other run of the version has it, and there is a word for its slot
pub record Known (v : Stored) (p : PlacedRun) : Type 0 where
  pub given : p.id < v.next_id
  pub same : (q : PlacedRun) → Contains v.runs q → q.id ≡ p.id → q ≡ p
  pub slot : p.slot < MOST_SLOTS

-- runs that a compactor noted
pub record IsNoted (v : Stored) (noted : List PlacedRun) : Type 0 where
  pub two : 2 ≤ length noted
  pub known : AllByRecursion (Known v) noted

pub slot_below : (v : Stored) (noted : List PlacedRun) → AllByRecursion (Known v) noted → AllByRecursion (λ slot. slot < MOST_SLOTS) (slots_of noted)
slot_below v [] known = tt
slot_below v (p ∷ ps) known = (known.0.slot, slot_below v ps known.1)

id_there : (P : ℕ → Type 0) (runs : List PlacedRun) (p : PlacedRun) → AllByRecursion P (ids_of runs) → Contains runs p → P p.id
id_there P runs p all has = All-contains (λ (q : PlacedRun). P q.id) runs p (All-from_recursion (λ (q : PlacedRun). P q.id) runs (unmapped runs all)) has
  where
    unmapped : (ps : List PlacedRun) → AllByRecursion P (ids_of ps) → AllByRecursion (λ (q : PlacedRun). P q.id) ps
    unmapped [] h = tt
    unmapped (q ∷ qs) h = (h.0, unmapped qs h.1)

slot_there : (P : ℕ → Type 0) (runs : List PlacedRun) (p : PlacedRun) → AllByRecursion P (slots_of runs) → Contains runs p → P p.slot
slot_there P runs p all has = All-contains (λ (q : PlacedRun). P q.slot) runs p (All-from_recursion (λ (q : PlacedRun). P q.slot) runs (unmapped runs all)) has
  where
    unmapped : (ps : List PlacedRun) → AllByRecursion P (slots_of ps) → AllByRecursion (λ (q : PlacedRun). P q.slot) ps
    unmapped [] h = tt
    unmapped (q ∷ qs) h = (h.0, unmapped qs h.1)

all_ids_rise : (v : Stored) (es : List Event) → v.next_id ≤ (fold after v es).next_id
all_ids_rise v [] = omega arith
all_ids_rise v (e ∷ es) = let here = ids_rise v e in let rest = all_ids_rise (after v e) es in omega (arith, here, rest)

module _ (m : Operation) where
  -- it stays known when something happens
  known_on : (v : Stored) (e : Event) (p : PlacedRun) → Known v p → Known (after v e) p
  known_on v e p known = record {
    given = let up = ids_rise v e in let lt = known.given in omega (arith, up, lt);
    same = λ q has id. known.same q (was_there m v e q has (let lt = known.given in omega (arith, lt, id))) id;
    slot = known.slot;
  }

  pub noted_on : (v : Stored) (e : Event) (noted : List PlacedRun) → IsNoted v noted → IsNoted (after v e) noted
  noted_on v e noted is = record { two = is.two; known = all-map (Known v) (Known (after v e)) (known_on v e) noted is.known }

  module _ (is_run : FlushesAreRuns) (laws : IsLawful m) (h : History) (legal : IsLegal m h) (opens : IsVersion (opened h.opening)) (seen : ℕ) where
    abbrev shown : History
    shown = record h { events = take seen h.events }

    abbrev whole : History
    whole = record h { events = take seen h.events ++ drop seen h.events }

    is_whole : whole ≡ h
    is_whole = ap (λ (es : List Event). record h { events = es }) (take-append-drop seen h.events)

    legal_whole : IsLegal m whole
    legal_whole = subst (λ (g : History). IsLegal m g) (sym is_whole) legal

    shown_version : IsVersion (version_after shown)
    shown_version = is_version is_run m laws shown (begins m shown (drop seen h.events) legal_whole) opens

    up : (version_at seen h).next_id ≤ (version_after h).next_id
    up =
        subst (λ (v : Stored). (version_at seen h).next_id ≤ v.next_id)
        (sym (fold-behind m (opened h.opening) (take seen h.events) (drop seen h.events)) ∙ ap version_after is_whole)
        (all_ids_rise (version_at seen h) (drop seen h.events))

    -- a run of a version that was shown is known in the present one
    known_since : (p : PlacedRun) → Contains (version_at seen h).runs p → Known (version_after h) p
    known_since p has = record {
      given = let lt = id_there (λ id. id < (version_at seen h).next_id) (version_at seen h).runs p shown_version.ids_given has in let le = up in omega (arith, lt, le);
      same = λ q there id.
          sym (same_run m is_run laws shown (drop seen h.events) legal_whole opens p q has (subst (λ (g : History). Contains (version_after g).runs q) (sym is_whole) there) (sym id));
      slot = slot_there (λ slot. slot < MOST_SLOTS) (version_at seen h).runs p shown_version.slots_below has;
    }

    pub noted_at : (first count : ℕ) → IsStretch h seen first count → IsNoted (version_after h) (part_of first count (version_at seen h).runs)
    noted_at first count stretch = record {
      two =
          let n = length-take-le count (drop first (version_at seen h).runs) (let d = length-drop first (version_at seen h).runs in let w = stretch.within in omega (arith, d, w)) in
          let le = stretch.two in
          omega (arith, n, le);
      known = all_part (Known (version_after h)) (version_at seen h).runs first count (all_from (Known (version_after h)) (version_at seen h).runs known_since);
    }

-- ---- a look at the present version

-- runs that have the ids of the noted ones are the noted ones
same_runs : (v : Stored) (runs noted : List PlacedRun) → AllByRecursion (λ q. Contains v.runs q) runs → AllByRecursion (Known v) noted → have_ids runs (ids_of noted) ≡ true → runs ≡ noted
same_runs v [] [] has known e = refl
same_runs v [] (p ∷ ps) has known e = absurd cc
same_runs v (q ∷ qs) [] has known e = absurd cc
same_runs v (q ∷ qs) (p ∷ ps) has known e =
    let parts = and_parts (eqb q.id p.id) (have_ids qs (ids_of ps)) e in
    ap (λ (r : PlacedRun). r ∷ qs) (known.0.same q has.0 (eqb-true q.id p.id parts.0))
    ∙ ap (λ (rs : List PlacedRun). p ∷ rs) (same_runs v qs ps has.1 known.1 parts.1)

pub found : (v : Stored) (noted : List PlacedRun) → IsNoted v noted → still_stand noted v ≡ true → Stands v noted
found v noted is e = record {
  first = place_of (newest_id (ids_of noted)) v.runs;
  within = subst (λ n. place_of (newest_id (ids_of noted)) v.runs + n ≤ length v.runs) count
      (part_count v.runs (place_of (newest_id (ids_of noted)) v.runs) (ids_of noted) (place_within (newest_id (ids_of noted)) v.runs) (ap ids_of same));
  there = ap (λ n. part_of (place_of (newest_id (ids_of noted)) v.runs) n v.runs) (sym count) ∙ same;
}
  where
    count : length (ids_of noted) ≡ length noted
    count = length-map noted (λ (p : PlacedRun). p.id)

    same : standing (ids_of noted) v.runs ≡ noted
    same =
        same_runs v (standing (ids_of noted) v.runs) noted
        (all_part (λ (q : PlacedRun). Contains v.runs q) v.runs (place_of (newest_id (ids_of noted)) v.runs) (length (ids_of noted)) (all_from (λ (q : PlacedRun). Contains v.runs q) v.runs (λ q has. has)))
        is.known e

-- what stands is found by its ids
pub standing_noted : (v : Stored) (noted : List PlacedRun) → IsVersion v → IsNoted v noted → (stands : Stands v noted) → standing (ids_of noted) v.runs ≡ noted
standing_noted v noted is_version is stands =
    standing_is v is_version (ids_of noted) stands.first (length noted) (let two = is.two in omega (arith, two)) stands.within (ap ids_of (sym stands.there)) ∙ stands.there

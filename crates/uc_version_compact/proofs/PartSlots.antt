-- The slots of neighbouring runs.
use Rattle.std.proofs.Common.{◌≡◌, ℕ, ◌+◌, ◌<◌, ◌≤◌, List, ◌++◌, length, take, drop, sym, ap, ◌∙◌, arith}
use Rattle.std.specs.List.{AllByRecursion}
use Rattle.std.proofs.lemmas.List.{map-append, length-map, length-take-le, length-drop}
use Rattle.uc_claims.specs.Claims.{times}
use Rattle.uc_claims.specs.Holding.{AreDistinct}
use Rattle.uc_claims.specs.declared.table.TheConstants.{MOST_SLOTS}
use Rattle.uc_claims.proofs.Times.{times-append, times-distinct}
use Rattle.uc_version_state.specs.Versions.{PlacedRun, Stored, IsVersion, slots_of}
use Rattle.uc_version_state.specs.Installs.{part_of}
use Rattle.uc_version_state.proofs.Once.{times_of_all, distinct-from_times, all-from_times}
use Rattle.uc_version_state.proofs.Parts.{in_parts}

-- the slots of neighbouring runs are some of those of all
pub part_times : (runs : List PlacedRun) (first count k : ℕ) → times k (slots_of runs) ≡ times k (slots_of (take first runs)) + (times k (slots_of (part_of first count runs)) + times k (slots_of (drop (first + count) runs)))
part_times runs first count k =
    ap (λ (ps : List PlacedRun). times k (slots_of ps)) (sym (in_parts first count runs))
    ∙ ap (times k) (map-append (λ (p : PlacedRun). p.slot) (take first runs) (part_of first count runs ++ drop (first + count) runs))
    ∙ times-append k (slots_of (take first runs)) (slots_of (part_of first count runs ++ drop (first + count) runs))
    ∙ ap (λ n. times k (slots_of (take first runs)) + n)
    (ap (times k) (map-append (λ (p : PlacedRun). p.slot) (part_of first count runs) (drop (first + count) runs))
    ∙ times-append k (slots_of (part_of first count runs)) (slots_of (drop (first + count) runs)))

module _ (v : Stored) (is_version : IsVersion v) (first count : ℕ) where
  pub part_once : (k : ℕ) → times k (slots_of (part_of first count v.runs)) ≤ 1
  part_once k = let all = part_times v.runs first count k in let le = times-distinct (slots_of v.runs) is_version.slots_apart k in omega (arith, all, le)

  part_slot : (k : ℕ) → 0 < times k (slots_of (part_of first count v.runs)) → k < MOST_SLOTS
  part_slot k some = let all = part_times v.runs first count k in times_of_all (λ slot. slot < MOST_SLOTS) (slots_of v.runs) is_version.slots_below k (omega (arith, all, some))

  pub part_distinct : AreDistinct (slots_of (part_of first count v.runs))
  part_distinct = distinct-from_times (slots_of (part_of first count v.runs)) part_once

  pub part_below : AllByRecursion (λ slot. slot < MOST_SLOTS) (slots_of (part_of first count v.runs))
  part_below = all-from_times (λ slot. slot < MOST_SLOTS) (slots_of (part_of first count v.runs)) part_slot

pub part_length : (runs : List PlacedRun) (first count : ℕ) → first + count ≤ length runs → length (part_of first count runs) ≡ count
part_length runs first count within = length-take-le count (drop first runs) (let e = length-drop first runs in omega (arith, e, within))

pub slots_length : (runs : List PlacedRun) (first count : ℕ) → first + count ≤ length runs → length (slots_of (part_of first count runs)) ≡ count
slots_length runs first count within = length-map (part_of first count runs) (λ (p : PlacedRun). p.slot) ∙ part_length runs first count within

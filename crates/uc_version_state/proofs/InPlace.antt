-- A run put in place of others, in a list of runs.
use Rattle.std.proofs.Common.{◌≡◌, ℕ, zero, suc, ◌+◌, ◌-◌, ◌<◌, ◌≤◌, List, [], ◌∷◌, ◌++◌, length, take, drop, get_or, set, refl, sym, ap, ◌∙◌, arith}
use Rattle.std.proofs.lemmas.List.{append_assoc, take_more_set, drop-set-lt, drop-drop, take_at, take-append-drop, length-take-le}
use Rattle.std.proofs.Math.Seq.{drop-append-add}
use Rattle.uc_run_entry.specs.Run.{Contents}
use Rattle.uc_version_state.specs.Versions.{PlacedRun, Stored}
use Rattle.uc_version_state.specs.Installs.{part_of, slot_of, replaced}

-- one more is taken out
pub one_out : (all old new : List PlacedRun) (first i : ℕ) → first + i < length all → old ≡ take first all ++ drop (first + i) all → new ≡ take first old ++ drop (first + 1) old → new ≡ take first all ++ drop (first + (i + 1)) all
one_out all old new first i within is removed =
    let len : length (take first all) ≡ first = length-take-le first all (omega (arith, within)) in
    removed
    ∙ ap (λ (ps : List PlacedRun). take first ps ++ drop (first + 1) ps) is
    ∙ ap (λ (ps : List PlacedRun). ps ++ drop (first + 1) (take first all ++ drop (first + i) all)) (take_at (take first all) (drop (first + i) all) first len)
    ∙ ap (λ (ps : List PlacedRun). take first all ++ ps)
    (ap (λ n. drop (n + 1) (take first all ++ drop (first + i) all)) (sym len)
    ∙ drop-append-add (take first all) (drop (first + i) all) 1
    ∙ drop-drop 1 (first + i) all
    ∙ ap (λ n. drop n all) (omega arith))

pub put_in_place : (old : List PlacedRun) (first count : ℕ) (x : PlacedRun) → 0 < count → first + count ≤ length old → take (first + 1) (set old first x) ++ drop (first + 1 + (count - 1)) (set old first x) ≡ take first old ++ x ∷ drop (first + count) old
put_in_place old first count x some within =
    ap (λ (ps : List PlacedRun). ps ++ drop (first + 1 + (count - 1)) (set old first x)) (take_more_set old first x (omega (arith, some, within)))
    ∙ append_assoc (take first old) (x ∷ []) (drop (first + 1 + (count - 1)) (set old first x))
    ∙ ap (λ (ps : List PlacedRun). take first old ++ x ∷ ps) (drop-set-lt (first + 1 + (count - 1)) old first x (omega arith) ∙ ap (λ n. drop n old) (omega (arith, some)))

pub slot_at : (old : List PlacedRun) (first count : ℕ) (d : PlacedRun) → 0 < count → first < length old → slot_of (part_of first count old) ≡ (get_or old first d).slot
slot_at [] first count d some within = absurd (omega (arith, within))
slot_at (p ∷ ps) zero zero d some within = absurd (omega (arith, some))
slot_at (p ∷ ps) zero (suc count) d some within = refl
slot_at (p ∷ ps) (suc first) count d some within = slot_at ps first count d some (omega (arith, within))

pub none_out : (all : List PlacedRun) (first : ℕ) → all ≡ take first all ++ drop (first + 0) all
none_out all first = sym (ap (λ n. take first all ++ drop n all) (omega arith) ∙ take-append-drop first all)

pub ended : (left all : List PlacedRun) (first i count : ℕ) → i ≡ count → left ≡ take first all ++ drop (first + i) all → left ≡ take first all ++ drop (first + count) all
ended left all first i count same is = is ∙ ap (λ n. take first all ++ drop (first + n) all) same

-- a version that is built from its parts, with a run in place of others
pub replaced_is : (v : Stored) (first count : ℕ) → 0 < count → first + count ≤ length v.runs → (runs : List PlacedRun) (d : PlacedRun) (slot id : ℕ) (run given : Contents) (all : List PlacedRun) (keeps : List ℕ) (last limit : ℕ) →
    runs ≡ v.runs → d ≡ get_or runs first d → slot ≡ d.slot → id ≡ v.next_id → run ≡ given → all ≡ take first runs ++ record { id = id; slot = slot; run = run } ∷ drop (first + count) runs → keeps ≡ v.keeps → last ≡ v.last → limit ≡ v.limit →
    record { runs = all; keeps = keeps; last = last; next_id = id + 1; limit = limit } ≡ replaced first count given v
replaced_is v first count some within runs d slot id run given all keeps last limit runs_are at slot_is id_is run_is all_are keeps_are last_is limit_is i = record {
  runs =
      (all_are
      ∙ ap (λ (ps : List PlacedRun). take first ps ++ record { id = id; slot = slot; run = run } ∷ drop (first + count) ps) runs_are
      ∙ ap (λ n. parts n slot run) id_is
      ∙ ap (λ n. parts v.next_id n run) slot_there
      ∙ ap (λ (r : Contents). parts v.next_id (slot_of (part_of first count v.runs)) r) run_is) i;
  keeps = keeps_are i;
  last = last_is i;
  next_id = ap (λ n. n + 1) id_is i;
  limit = limit_is i;
}
  where
    parts : ℕ → ℕ → Contents → List PlacedRun
    parts n s r = take first v.runs ++ record { id = n; slot = s; run = r } ∷ drop (first + count) v.runs

    slot_there : slot ≡ slot_of (part_of first count v.runs)
    slot_there =
        slot_is ∙ ap (λ (p : PlacedRun). p.slot) (at ∙ ap (λ (ps : List PlacedRun). get_or ps first d) runs_are)
        ∙ sym (slot_at v.runs first count d some (omega (arith, some, within)))

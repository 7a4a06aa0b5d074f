-- A version with a run before all others is a version, and whether any of its runs is claimed.
use Rattle.std.proofs.Common.{◌≡◌, ℕ, zero, suc, ◌+◌, ◌<◌, ◌≤◌, Bool, true, false, List, [], ◌∷◌, ◌++◌, length, take, get_or, refl, sym, ap, ◌∙◌, subst, arith}
use Rattle.std.specs.Prelude.{◌||◌}
use Rattle.std.specs.List.{AllByRecursion, list_any}
use Rattle.std.proofs.lemmas.List.{length-map, take_all}
use Rattle.std.proofs.lemmas.List.Folds.{list_any_at, list_any_more}
use Rattle.uc_claims.specs.declared.table.TheConstants.{MOST_SLOTS}
use Rattle.uc_bytes.specs.declared.write.Write.{Write}
use Rattle.uc_batch.specs.Rising.{IsRising}
use Rattle.uc_run_entry.specs.Run.{Contents, IsRun}
use Rattle.uc_compact.proofs.NestedLists.{all-map}
use Rattle.uc_version_state.specs.Versions.{PlacedRun, Stored, IsVersion, contents_of, ids_of, slots_of}
use Rattle.uc_version_state.specs.Feeds.{with_runs}
use Rattle.uc_version_state.proofs.Free.{least_is_free, least_within}
use Rattle.uc_version_state.proofs.Fresh.{fresh}
use Rattle.uc_version.specs.Owners.{Owner, unclaimed}
use Rattle.uc_live.specs.Adding.{IsAbove, HasPlace}
use Rattle.uc_live.specs.HeldLives.{IsLive}
use Rattle.uc_live.specs.declared.live_store.LiveStore.TheInside.{Inside}

pub added_is_version : (v : Stored) (run : Contents) → IsVersion v → IsRun run.low run.high run.points run.fragments → IsAbove v run → HasPlace v →
    IsVersion (with_runs (run ∷ []) run.high v)
added_is_version v run is is_run above place =
    let range = is_run.range in
    let below = is.id_below in
    let left = place.1 in
    record {
      runs = (is_run, is.runs);
      newest_first = (all-map (λ (r : Contents). r.high ≤ v.last) (λ r. r.high < run.low) (λ r le. omega (arith, above, le)) (contents_of v.runs) is.below, is.newest_first);
      below = ((omega arith), all-map (λ (r : Contents). r.high ≤ v.last) (λ r. r.high ≤ run.high) (λ r le. omega (arith, above, range, le)) (contents_of v.runs) is.below);
      keeps_rise = is.keeps_rise;
      keeps_below = all-map (λ keep. keep ≤ v.last) (λ keep. keep ≤ run.high) (λ keep le. omega (arith, above, range, le)) v.keeps is.keeps_below;
      last_below = is_run.below;
      slots_apart = (least_is_free (slots_of v.runs), is.slots_apart);
      slots_below = ((let le = least_within (slots_of v.runs) in let n = length-map v.runs (λ (q : PlacedRun). q.slot) in let few = place.0 in omega (arith, le, n, few)), is.slots_below);
      ids_apart = (fresh v.next_id (ids_of v.runs) is.ids_given, is.ids_apart);
      ids_given = ((omega arith), all-map (λ i. i < v.next_id) (λ i. i < v.next_id + 1) (λ i lt. omega (arith, lt)) (ids_of v.runs) is.ids_given);
      id_below = omega (arith, below, left);
      limit_some = is.limit_some;
    }

-- the slot of each run
pub slot_at : (runs : List PlacedRun) (i : ℕ) (p : PlacedRun) → i < length runs → p ≡ get_or runs i p → AllByRecursion (λ slot. slot < MOST_SLOTS) (slots_of runs) → p.slot < MOST_SLOTS
slot_at [] i p lt is below = absurd (omega (arith, lt))
slot_at (q ∷ qs) zero p lt is below = subst (λ (r : PlacedRun). r.slot < MOST_SLOTS) (sym is) below.0
slot_at (q ∷ qs) (suc i) p lt is below = slot_at qs i p (omega (arith, lt)) is below.1

module _ (busy : PlacedRun → Bool) where
  -- so far no run is claimed
  pub free_more : (runs : List PlacedRun) (i : ℕ) (p : PlacedRun) → i < length runs → p ≡ get_or runs i p → list_any busy (take i runs) ≡ false → busy p ≡ false → list_any busy (take (i + 1) runs) ≡ false
  free_more runs i p lt is free not =
      list_any_more busy runs i p lt ∙ ap (λ b. b || busy (get_or runs i p)) free ∙ ap busy (sym is) ∙ not

  pub claimed_there : (runs : List PlacedRun) (i : ℕ) (p : PlacedRun) → i < length runs → p ≡ get_or runs i p → busy p ≡ true → list_any busy runs ≡ true
  claimed_there runs i p lt is claimed = list_any_at busy runs i p lt (ap busy (sym is) ∙ claimed)

  pub all_free : (runs : List PlacedRun) (i : ℕ) → length runs ≤ i → list_any busy (take i runs) ≡ false → list_any busy runs ≡ false
  all_free runs i le free = ap (list_any busy) (sym (take_all i runs le)) ∙ free

-- a store without writes in memtables is one with the run too
pub added_is_live : {O : Type 0} (i : Inside O) → IsLive i → (o : Owner) (run : Contents) → o ≡ unclaimed (with_runs (run ∷ []) run.high i.owned.version) i.options.store → i.active.shown ≡ [] → i.active.waiting ≡ [] →
    IsLive (record i { owned = o })
added_is_live i is o run e none_shown none_waiting =
    subst (λ (p : Owner). IsLive (record i { owned = p })) (sym e) (record {
      options_good = is.options_good;
      options_are = refl;
      whole = is.whole;
      small = is.small;
      rising = subst (λ (us : List Write). IsRising run.high (us ++ i.active.waiting)) (sym none_shown) (subst (λ (us : List Write). IsRising run.high us) (sym none_waiting) tt);
      leaves = is.leaves;
      taken = is.taken;
    })

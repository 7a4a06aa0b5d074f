-- The runs of memtables, placed before older ones.
use Rattle.std.proofs.Common.{◌≡◌, ◌≢◌, ℕ, suc, ◌+◌, ◌<◌, ◌≤◌, List, [], ◌∷◌, ◌++◌, length, refl, sym, ap, ◌∙◌, subst, arith, append-nil}
use Rattle.std.specs.List.{AllByRecursion}
use Rattle.std.proofs.lemmas.List.{append_assoc, length-map}
use Rattle.uc_oper.specs.Operation.{Operation, IsLawful}
use Rattle.uc_oper.specs.Composition.{composed}
use Rattle.uc_oper.specs.declared.effect.Effect.{Effect}
use Rattle.uc_bytes.specs.declared.write.Write.{Write}
use Rattle.uc_batch.specs.Rising.{IsRising, last_of}
use Rattle.uc_model.specs.Meaning.{effect_on}
use Rattle.uc_model.proofs.MeaningLaws.{parts_compose}
use Rattle.uc_claims.specs.Holding.{AreDistinct}
use Rattle.uc_claims.specs.declared.table.TheConstants.{MOST_SLOTS}
use Rattle.uc_run_entry.specs.Run.{Contents, IsRun}
use Rattle.uc_run_entry.specs.PlainList.{plain_list}
use Rattle.uc_compact.specs.Inputs.{AreRuns, AreNewestFirst, writes_of}
use Rattle.uc_compact.proofs.NestedLists.{all-map}
use Rattle.uc_run.specs.Flush.{flushed, first_of}
use Rattle.uc_version_state.specs.Versions.{PlacedRun, Stored, contents_of, ids_of, slots_of}
use Rattle.uc_version_state.specs.Flushes.{with_run, flushed_onto}
use Rattle.uc_version_state.specs.Feeds.{memtables_in, fed}
use Rattle.uc_version_state.proofs.Free.{least_is_free, least_within}
use Rattle.uc_version_state.proofs.Fresh.{fresh}
use Rattle.uc_version_state.proofs.Memtables.{joined, joined_from, PartsRise, memtables_rise, last-joined, rising_from_any, last_of_some, last_above}

-- runs stand newest first up to a last sequence, each has a slot, and their ids are below the next one
pub record ArePlaced (id last : ℕ) (runs : List PlacedRun) : Type 0 where
  pub runs_are : AreRuns (contents_of runs)
  pub newest_first : AreNewestFirst (contents_of runs)
  pub below : AllByRecursion (λ r. r.high ≤ last) (contents_of runs)
  pub slots_apart : AreDistinct (slots_of runs)
  pub slots_below : AllByRecursion (λ slot. slot < MOST_SLOTS) (slots_of runs)
  pub ids_apart : AreDistinct (ids_of runs)
  pub ids_given : AllByRecursion (λ i. i < id) (ids_of runs)

first_above : (last : ℕ) (ws : List Write) → ws ≢ [] → IsRising last ws → last < first_of ws
first_above last [] some h = absurd (some refl)
first_above last (w ∷ ws) some h = h.0

pub count_flushed : (id : ℕ) (runs : List PlacedRun) (ps : List (List Write)) → length (flushed_onto id runs ps) ≡ length runs + length ps
count_flushed id runs [] = omega arith
count_flushed id runs (p ∷ ps) = let e = count_flushed (id + 1) (with_run id runs (flushed p)) ps in omega (arith, e)

-- a flush of writes makes a run
abbrev pub FlushesAreRuns : Type 0
FlushesAreRuns = (writes : List Write) → IsRising 0 writes → writes ≢ [] → IsRun (flushed writes).low (flushed writes).high (flushed writes).points (flushed writes).fragments

-- which does to every key what they do
abbrev pub FlushesKeepEffects : Operation → Type 0
FlushesKeepEffects m = (writes : List Write) (key : List ℕ) (at : ℕ) → IsRising 0 writes → writes ≢ [] → effect_on m (plain_list (flushed writes)) key at ≡ effect_on m writes key at

module _ (is_run : FlushesAreRuns) where
  one_more : (id last : ℕ) (runs : List PlacedRun) (p : List Write) → p ≢ [] → IsRising last p → length runs < MOST_SLOTS → ArePlaced id last runs → ArePlaced (id + 1) (last_of last p) (with_run id runs (flushed p))
  one_more id last runs p some rises room h = record {
    runs_are = (is_run p (rising_from_any last p rises) some, h.runs_are);
    newest_first = (all-map (λ (r : Contents). r.high ≤ last) (λ r. r.high < first_of p) (λ r le. let lt = first_above last p some rises in omega (arith, lt, le)) (contents_of runs) h.below, h.newest_first);
    below = ((let e = last_of_some last p some in omega (arith, e)), all-map (λ (r : Contents). r.high ≤ last) (λ r. r.high ≤ last_of last p) (λ r le. let up = last_above last p rises in omega (arith, up, le)) (contents_of runs) h.below);
    slots_apart = (least_is_free (slots_of runs), h.slots_apart);
    slots_below = ((let le = least_within (slots_of runs) in let n = length-map runs (λ (q : PlacedRun). q.slot) in omega (arith, le, n, room)), h.slots_below);
    ids_apart = (fresh id (ids_of runs) h.ids_given, h.ids_apart);
    ids_given = ((omega arith), all-map (λ i. i < id) (λ i. i < id + 1) (λ i lt. omega (arith, lt)) (ids_of runs) h.ids_given);
  }

  all_flushed : (ps : List (List Write)) (id last : ℕ) (runs : List PlacedRun) → PartsRise last ps → length runs + length ps ≤ MOST_SLOTS → ArePlaced id last runs → ArePlaced (id + length ps) (last_of last (joined ps)) (flushed_onto id runs ps)
  all_flushed [] id last runs rises room h = subst (λ n. ArePlaced n last runs) (omega arith) h
  all_flushed (p ∷ ps) id last runs rises room h =
      let room_for_one : length runs < MOST_SLOTS = omega (arith, room) in
      let placed = all_flushed ps (id + 1) (last_of last p) (with_run id runs (flushed p)) rises.2 (omega (arith, room)) (one_more id last runs p rises.0 rises.1 room_for_one h) in
      subst (λ n. ArePlaced n (last_of last (joined (p ∷ ps))) (flushed_onto id runs (p ∷ ps))) (let e : id + 1 + length ps ≡ id + suc (length ps) = omega arith in e)
      (subst (λ n. ArePlaced (id + 1 + length ps) n (flushed_onto id runs (p ∷ ps))) (sym (last-joined last p ps)) placed)

  module _ (m : Operation) (laws : IsLawful m) (keeps_effects : FlushesKeepEffects m) (key : List ℕ) (at : ℕ) where
    effects_flushed : (ps : List (List Write)) (id last : ℕ) (runs : List PlacedRun) (before : List Write) → PartsRise last ps →
        effect_on m (writes_of (contents_of runs)) key at ≡ effect_on m before key at →
        effect_on m (writes_of (contents_of (flushed_onto id runs ps))) key at ≡ effect_on m (before ++ joined ps) key at
    effects_flushed [] id last runs before rises h = h ∙ ap (λ ws. effect_on m ws key at) (sym (append-nil before))
    effects_flushed (p ∷ ps) id last runs before rises h =
        effects_flushed ps (id + 1) (last_of last p) (with_run id runs (flushed p)) (before ++ p) rises.2
        (parts_compose m laws (writes_of (contents_of runs)) (plain_list (flushed p)) key at
        ∙ ap (λ (e : Effect). composed m e (effect_on m (plain_list (flushed p)) key at)) h
        ∙ ap (composed m (effect_on m before key at)) (keeps_effects p key at (rising_from_any last p rises.1) rises.0)
        ∙ sym (parts_compose m laws before p key at))
        ∙ ap (λ ws. effect_on m ws key at) (append_assoc before p (joined ps))

  -- ---- writes that are fed to a version

  module _ (v : Stored) (ws : List Write) (rises : IsRising v.last ws) where
    abbrev parts : List (List Write)
    parts = memtables_in v ws

    parts_joined : joined parts ≡ ws
    parts_joined = joined_from v.limit [] ws

    pub placed_by : length v.runs + length parts ≤ MOST_SLOTS → ArePlaced v.next_id v.last v.runs → ArePlaced (fed ws v).next_id (fed ws v).last (fed ws v).runs
    placed_by room h =
        subst (λ us. ArePlaced (fed ws v).next_id (last_of v.last us) (fed ws v).runs) parts_joined
        (all_flushed parts v.next_id v.last v.runs (memtables_rise v.limit v.last ws rises) room h)

    module _ (m : Operation) (laws : IsLawful m) (keeps_effects : FlushesKeepEffects m) (key : List ℕ) (at : ℕ) where
      pub effects_fed : effect_on m (writes_of (contents_of (fed ws v).runs)) key at ≡ effect_on m (writes_of (contents_of v.runs) ++ ws) key at
      effects_fed =
          effects_flushed m laws keeps_effects key at parts v.next_id v.last v.runs (writes_of (contents_of v.runs)) (memtables_rise v.limit v.last ws rises) refl
          ∙ ap (λ us. effect_on m (writes_of (contents_of v.runs) ++ us) key at) parts_joined

-- A version after an install is a version.
use Rattle.std.proofs.Common.{◌≡◌, ◌≢◌, ℕ, zero, suc, ◌+◌, ◌-◌, ◌<◌, ◌≤◌, List, [], ◌∷◌, ◌++◌, map, refl, sym, ap, ◌∙◌, subst, ⊎_elim, arith}
use Rattle.std.specs.Prelude.{◌^◌}
use Rattle.std.specs.List.{AllByRecursion}
use Rattle.std.proofs.lemmas.List.{map-append}
use Rattle.uc_oper.specs.Operation.{Operation, IsLawful}
use Rattle.uc_claims.specs.Claims.{times}
use Rattle.uc_claims.specs.declared.table.TheConstants.{MOST_SLOTS}
use Rattle.uc_claims.proofs.Times.{times-append, times-distinct}
use Rattle.uc_run_entry.specs.Run.{Contents, IsRun}
use Rattle.uc_compact.specs.Inputs.{AreNewestFirst, high_of, low_of}
use Rattle.uc_compact.proofs.NestedLists.{all-append, all-map}
use Rattle.uc_compact.proofs.OutputRun.{output_is_run}
use Rattle.uc_version_state.specs.Versions.{PlacedRun, Stored, IsVersion, contents_of, ids_of, slots_of}
use Rattle.uc_version_state.specs.Installs.{Install, MayInstall, inputs_in, older_in, compaction_in, slot_of, installed}
use Rattle.uc_version_state.proofs.Once.{distinct-from_times, alone, times_of_all}
use Rattle.uc_version_state.proofs.Parts.{all-front, all-behind, first-front, first-behind, first-append, apart, of_newest, of_oldest}
use Rattle.uc_version_state.proofs.Replacing as replacing

module _ (m : Operation) (laws : IsLawful m) (v : Stored) (i : Install) (is_version : IsVersion v) (may : MayInstall m v i) where
  abbrev newer : List PlacedRun
  newer = replacing.newer m laws v i is_version may

  abbrev stretch : List PlacedRun
  stretch = inputs_in i v

  abbrev older : List PlacedRun
  older = older_in i v

  -- the run that is new
  abbrev pub new_run : PlacedRun
  new_run = record { id = v.next_id; slot = slot_of stretch; run = i.output }

  parts : newer ++ (stretch ++ older) ≡ v.runs
  parts = replacing.parts m laws v i is_version may

  module _ {X : Type 0} (f : PlacedRun → X) where
    pub mapped_before : map f newer ++ (map f stretch ++ map f older) ≡ map f v.runs
    mapped_before =
        ap (λ (xs : List X). map f newer ++ xs) (sym (map-append f stretch older)) ∙ sym (map-append f newer (stretch ++ older)) ∙ ap (map f) parts

    pub mapped_after : map f (installed i v).runs ≡ map f newer ++ f new_run ∷ map f older
    mapped_after = map-append f newer (new_run ∷ older)

    -- what holds of all runs, and of the new one, holds afterwards
    stays : (P : X → Type 0) → AllByRecursion P (map f v.runs) → P (f new_run) → AllByRecursion P (map f (installed i v).runs)
    stays P h new =
        let all : AllByRecursion P (map f newer ++ (map f stretch ++ map f older)) = subst (λ (xs : List X). AllByRecursion P xs) (sym mapped_before) h in
        subst (λ (xs : List X). AllByRecursion P xs) (sym mapped_after)
        (all-append P (map f newer) (f new_run ∷ map f older) (all-front P (map f newer) (map f stretch ++ map f older) all)
        (new, all-behind P (map f stretch) (map f older) (all-behind P (map f newer) (map f stretch ++ map f older) all)))

  stand : AreNewestFirst (contents_of newer ++ (contents_of stretch ++ contents_of older))
  stand = replacing.in_order m laws v i is_version may

  some_inputs : contents_of stretch ≢ []
  some_inputs = replacing.some_inputs m laws v i is_version may

  output_run : IsRun i.output.low i.output.high i.output.points i.output.fragments
  output_run =
      subst (λ (r : Contents). IsRun r.low r.high r.points r.fragments) (sym may.output_made)
      (output_is_run m (compaction_in i v) (replacing.are m laws v i is_version may) (replacing.stand m laws v i is_version may))

  low_is : i.output.low ≡ low_of (contents_of stretch)
  low_is = ap (λ (r : Contents). r.low) may.output_made

  high_is : i.output.high ≡ high_of (contents_of stretch)
  high_is = ap (λ (r : Contents). r.high) may.output_made

  behind : AllByRecursion (λ (y : Contents). y.high < i.output.low) (contents_of older)
  behind =
      subst (λ n. AllByRecursion (λ (y : Contents). y.high < n) (contents_of older)) (sym low_is)
      (of_oldest (λ n. AllByRecursion (λ (y : Contents). y.high < n) (contents_of older)) (contents_of stretch) some_inputs
      (apart (contents_of stretch) (contents_of older) (first-behind (contents_of newer) (contents_of stretch ++ contents_of older) stand)))

  in_front : AllByRecursion (λ (x : Contents). AllByRecursion (λ (y : Contents). y.high < x.low) (i.output ∷ contents_of older)) (contents_of newer)
  in_front =
      all-map (λ (x : Contents). AllByRecursion (λ (y : Contents). y.high < x.low) (contents_of stretch ++ contents_of older))
      (λ x. AllByRecursion (λ (y : Contents). y.high < x.low) (i.output ∷ contents_of older))
      (λ x below. (
        subst (λ n. n < x.low) (sym high_is) (of_newest (λ n. n < x.low) (contents_of stretch) some_inputs (all-front (λ (y : Contents). y.high < x.low) (contents_of stretch) (contents_of older) below)),
        all-behind (λ (y : Contents). y.high < x.low) (contents_of stretch) (contents_of older) below,
      ))
      (contents_of newer) (apart (contents_of newer) (contents_of stretch ++ contents_of older) stand)

  newest_first : AreNewestFirst (contents_of (installed i v).runs)
  newest_first =
      subst AreNewestFirst (sym (mapped_after (λ p. p.run)))
      (first-append (contents_of newer) (i.output ∷ contents_of older) (first-front (contents_of newer) (contents_of stretch ++ contents_of older) stand)
      (behind, first-behind (contents_of stretch) (contents_of older) (first-behind (contents_of newer) (contents_of stretch ++ contents_of older) stand))
      in_front)

  -- how often a number stands among the runs
  module _ (f : PlacedRun → ℕ) (k : ℕ) where
    pub times_before : times k (map f v.runs) ≡ times k (map f newer) + (times k (map f stretch) + times k (map f older))
    times_before =
        ap (times k) (sym (mapped_before f)) ∙ times-append k (map f newer) (map f stretch ++ map f older)
        ∙ ap (λ n. times k (map f newer) + n) (times-append k (map f stretch) (map f older))

    pub times_after : times k (map f (installed i v).runs) ≡ times k (map f newer) + (times k (f new_run ∷ []) + times k (map f older))
    times_after =
        ap (times k) (mapped_after f) ∙ times-append k (map f newer) (f new_run ∷ map f older)
        ∙ ap (λ n. times k (map f newer) + n) (times-append k (f new_run ∷ []) (map f older))

  slot_there : (k : ℕ) (ps : List PlacedRun) → contents_of ps ≢ [] → times k (slot_of ps ∷ []) ≤ times k (slots_of ps)
  slot_there k [] some = absurd (some refl)
  slot_there k (p ∷ ps) some = let e = times-append k (p.slot ∷ []) (slots_of ps) in omega (arith, e)

  slots_once : (k : ℕ) → times k (slots_of (installed i v).runs) ≤ 1
  slots_once k =
      let once = times-distinct (slots_of v.runs) is_version.slots_apart k in
      let before = times_before (λ p. p.slot) k in
      let after = times_after (λ p. p.slot) k in
      let le = slot_there k stretch some_inputs in
      omega (arith, once, before, after, le)

  -- an id that was given is below the next
  given_below : (k : ℕ) → 0 < times k (ids_of v.runs) → k < v.next_id
  given_below k some = times_of_all (λ id. id < v.next_id) (ids_of v.runs) is_version.ids_given k some

  ids_once : (k : ℕ) → times k (ids_of (installed i v).runs) ≤ 1
  ids_once k =
      let once = times-distinct (ids_of v.runs) is_version.ids_apart k in
      let before = times_before (λ p. p.id) k in
      let after = times_after (λ p. p.id) k in
      let below = given_below k in
      ⊎_elim
      (λ (same : (v.next_id ≡ k) × (times k (v.next_id ∷ []) ≡ 1)). by_count (times k (ids_of v.runs)) refl same)
      (λ (other : times k (v.next_id ∷ []) ≡ 0). omega (arith, once, before, after, other))
      (alone k v.next_id)
    where
      by_count : (n : ℕ) → times k (ids_of v.runs) ≡ n → (v.next_id ≡ k) × (times k (v.next_id ∷ []) ≡ 1) → times k (ids_of (installed i v).runs) ≤ 1
      by_count zero none same =
          let before = times_before (λ p. p.id) k in let after = times_after (λ p. p.id) k in let e = same.1 in omega (arith, none, before, after, e)
      by_count (suc n) some same = let lt = given_below k (omega (arith, some)) in let e = same.0 in absurd (omega (arith, lt, e))

  slot_below : (ps : List PlacedRun) → contents_of ps ≢ [] → AllByRecursion (λ slot. slot < MOST_SLOTS) (slots_of ps) → slot_of ps < MOST_SLOTS
  slot_below [] some h = absurd (some refl)
  slot_below (p ∷ ps) some h = h.0

  slots_of_stretch : AllByRecursion (λ slot. slot < MOST_SLOTS) (slots_of stretch)
  slots_of_stretch =
      all-front (λ slot. slot < MOST_SLOTS) (slots_of stretch) (slots_of older)
      (all-behind (λ slot. slot < MOST_SLOTS) (slots_of newer) (slots_of stretch ++ slots_of older)
      (subst (λ (xs : List ℕ). AllByRecursion (λ slot. slot < MOST_SLOTS) xs) (sym (mapped_before (λ p. p.slot))) is_version.slots_below))

  pub installed_is_version : IsVersion (installed i v)
  installed_is_version = record {
    runs = stays (λ p. p.run) (λ r. IsRun r.low r.high r.points r.fragments) is_version.runs output_run;
    newest_first = newest_first;
    below = stays (λ p. p.run) (λ r. r.high ≤ v.last) is_version.below (subst (λ n. n ≤ v.last) (sym high_is) (of_newest (λ n. n ≤ v.last) (contents_of stretch) some_inputs (replacing.of_stretch m laws v i is_version may (λ r. r.high ≤ v.last) is_version.below)));
    keeps_rise = is_version.keeps_rise;
    keeps_below = is_version.keeps_below;
    last_below = is_version.last_below;
    slots_apart = distinct-from_times (slots_of (installed i v).runs) slots_once;
    slots_below = stays (λ p. p.slot) (λ slot. slot < MOST_SLOTS) is_version.slots_below (slot_below stretch some_inputs slots_of_stretch);
    ids_apart = distinct-from_times (ids_of (installed i v).runs) ids_once;
    ids_given = stays (λ p. p.id) (λ id. id < v.next_id + 1) (all-map (λ id. id < v.next_id) (λ id. id < v.next_id + 1) (λ id lt. omega (arith, lt)) (ids_of v.runs) is_version.ids_given) (omega arith);
    id_below = below_last v.next_id is_version.id_below may.may.id_left;
    limit_some = is_version.limit_some;
  }
    where
      below_last : (n : ℕ) → n < 2 ^ 64 → n ≢ 2 ^ 64 - 1 → n + 1 < 2 ^ 64
      below_last n lt ne = omega (arith, lt, ne)

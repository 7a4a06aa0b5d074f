-- An install puts a run in place of others, and reads see no difference.
use Rattle.std.proofs.Common.{◌≡◌, ◌≢◌, ℕ, ◌≤◌, Bool, true, false, leb, List, [], ◌∷◌, ◌++◌, inl, inr, length, take, refl, sym, ap, ◌∙◌, subst, arith}
use Rattle.std.specs.Prelude.{None}
use Rattle.std.specs.List.{AllByRecursion}
use Rattle.std.proofs.lemmas.Bool.Decides.{nat_tests}
use Rattle.std.proofs.lemmas.List.{map-append}
use Rattle.uc_oper.specs.Operation.{Operation, IsLawful}
use Rattle.uc_oper.specs.Composition.{applied}
use Rattle.uc_bytes.specs.declared.write.Write.{Write}
use Rattle.uc_model.specs.Meaning.{effect_on, value_of}
use Rattle.uc_model.proofs.MeaningLaws.{effect_continues}
use Rattle.uc_run_entry.specs.Run.{Contents}
use Rattle.uc_run_entry.specs.PlainList.{plain_list}
use Rattle.uc_compact.specs.Inputs.{AreRuns, AreNewestFirst, Stand, writes_of, high_of}
use Rattle.uc_compact.specs.Output.{output_of}
use Rattle.uc_compact.specs.Reading.{IsReadAt, KeepsReads}
use Rattle.uc_compact.proofs.Staying.{keeps_reads}
use Rattle.uc_version_state.specs.Versions.{PlacedRun, Stored, IsVersion, contents_of, ids_of, writes_in}
use Rattle.uc_version_state.specs.Installs.{Install, MayInstall, place_in, inputs_in, older_in, compaction_in, slot_of, installed}
use Rattle.uc_version_state.proofs.Parts.{in_parts, writes-append, all-front, all-behind, first-front, first-behind, of_newest}

module _ (m : Operation) (laws : IsLawful m) (v : Stored) (i : Install) (is_version : IsVersion v) (may : MayInstall m v i) where
  abbrev pub newer : List PlacedRun
  newer = take (place_in i v) v.runs

  abbrev pub stretch : List PlacedRun
  stretch = inputs_in i v

  abbrev pub older : List PlacedRun
  older = older_in i v

  pub parts : newer ++ (stretch ++ older) ≡ v.runs
  parts = in_parts (place_in i v) (length i.ids) v.runs

  pub contents_parts : contents_of newer ++ (contents_of stretch ++ contents_of older) ≡ contents_of v.runs
  contents_parts =
      ap (λ (rs : List Contents). contents_of newer ++ rs) (sym (map-append (λ (p : PlacedRun). p.run) stretch older))
      ∙ sym (map-append (λ (p : PlacedRun). p.run) newer (stretch ++ older))
      ∙ ap contents_of parts

  -- a fact of all runs holds of the stretch
  pub of_stretch : (P : Contents → Type 0) → AllByRecursion P (contents_of v.runs) → AllByRecursion P (contents_of stretch)
  of_stretch P h =
      all-front P (contents_of stretch) (contents_of older)
      (all-behind P (contents_of newer) (contents_of stretch ++ contents_of older) (subst (λ (rs : List Contents). AllByRecursion P rs) (sym contents_parts) h))

  pub in_order : AreNewestFirst (contents_of newer ++ (contents_of stretch ++ contents_of older))
  in_order = subst AreNewestFirst (sym contents_parts) is_version.newest_first

  pub some_inputs : contents_of stretch ≢ []
  some_inputs e = no_ids i.ids may.two (sym may.neighbours ∙ none_there stretch e)
    where
      none_there : (ps : List PlacedRun) → contents_of ps ≡ [] → ids_of ps ≡ []
      none_there [] h = refl
      none_there (p ∷ ps) h = absurd cc

      no_ids : (ids : List ℕ) → 2 ≤ length ids → ids ≢ []
      no_ids [] two h = absurd (omega (arith, two))
      no_ids (x ∷ xs) two h = absurd cc

  pub are : AreRuns (contents_of stretch)
  are = of_stretch _ is_version.runs

  pub stand : Stand (contents_of stretch) i.keeps
  stand = record {
    some = some_inputs;
    newest_first = first-front (contents_of stretch) (contents_of older) (first-behind (contents_of newer) (contents_of stretch ++ contents_of older) in_order);
    keeps_rise = may.keeps_rise;
  }

  -- a kept sequence is one that the compaction was made for, or isn't below its inputs
  pub is_kept : (at : ℕ) → IsReadAt v.keeps v.last at → IsReadAt i.keeps (high_of (contents_of stretch)) at
  is_kept at (inr above) = let le = of_newest (λ n. n ≤ v.last) (contents_of stretch) some_inputs (of_stretch (λ r. r.high ≤ v.last) is_version.below) in inr (omega (arith, le, above))
  is_kept at (inl there) = by_place (leb (high_of (contents_of stretch)) at) refl
    where
      by_place : (b : Bool) → leb (high_of (contents_of stretch)) at ≡ b → IsReadAt i.keeps (high_of (contents_of stretch)) at
      by_place true e = inr (grind (arith, nat_tests))
      by_place false e = inl (may.may.keeps_known at there (grind (arith, nat_tests)))

  reads : KeepsReads m (compaction_in i v) (output_of m (compaction_in i v))
  reads = keeps_reads m laws (compaction_in i v) are stand

  abbrev W : List Write
  W = writes_of (contents_of stretch)

  abbrev V : List Write
  V = plain_list i.output

  writes_before : writes_in v ≡ (writes_of (contents_of older) ++ W) ++ writes_of (contents_of newer)
  writes_before =
      ap writes_of (sym contents_parts)
      ∙ writes-append (contents_of newer) (contents_of stretch ++ contents_of older)
      ∙ ap (λ ws. ws ++ writes_of (contents_of newer)) (writes-append (contents_of stretch) (contents_of older))

  writes_after : writes_in (installed i v) ≡ (writes_of (contents_of older) ++ V) ++ writes_of (contents_of newer)
  writes_after =
      ap writes_of (map-append (λ (p : PlacedRun). p.run) newer (record { id = v.next_id; slot = slot_of stretch; run = i.output } ∷ older))
      ∙ writes-append (contents_of newer) (i.output ∷ contents_of older)

  -- what is below, and then the inputs or the output, make one value
  module _ (key : List ℕ) (at : ℕ) (kept : IsReadAt v.keeps v.last at) where
    output_value : value_of m (plain_list (output_of m (compaction_in i v))) key at ≡ value_of m W key at
    output_value = reads.values key at (is_kept at kept)

    value_alone : (ps : List Write) → ps ≡ [] → value_of m (ps ++ V) key at ≡ value_of m (ps ++ W) key at
    value_alone ps none =
        subst (λ (us : List Write). value_of m (us ++ V) key at ≡ value_of m (us ++ W) key at) (sym none)
        (ap (λ (run : Contents). value_of m (plain_list run) key at) may.output_made ∙ output_value)

    nothing_below : (ps : List PlacedRun) → ps ≡ [] → writes_of (contents_of ps) ≡ []
    nothing_below [] none = refl
    nothing_below (p ∷ ps) none = absurd cc

    value_here : (b : Bool) → i.oldest ≡ b → value_of m (writes_of (contents_of older) ++ V) key at ≡ value_of m (writes_of (contents_of older) ++ W) key at
    value_here true is_oldest = value_alone (writes_of (contents_of older)) (nothing_below older (may.may.oldest_last is_oldest))
    value_here false newer_alone =
        effect_continues m laws None (writes_of (contents_of older)) V key at
        ∙ ap (λ e. applied m e (value_of m (writes_of (contents_of older)) key at))
        (ap (λ (run : Contents). effect_on m (plain_list run) key at) may.output_made ∙ reads.effects newer_alone key at (is_kept at kept))
        ∙ sym (effect_continues m laws None (writes_of (contents_of older)) W key at)

    pub value_stays : value_of m (writes_in (installed i v)) key at ≡ value_of m (writes_in v) key at
    value_stays =
        ap (λ ws. value_of m ws key at) writes_after
        ∙ effect_continues m laws None (writes_of (contents_of older) ++ V) (writes_of (contents_of newer)) key at
        ∙ ap (applied m (effect_on m (writes_of (contents_of newer)) key at)) (value_here i.oldest refl)
        ∙ sym (effect_continues m laws None (writes_of (contents_of older) ++ W) (writes_of (contents_of newer)) key at)
        ∙ sym (ap (λ ws. value_of m ws key at) writes_before)

-- Neighbouring runs of a version may be compacted together.
use Rattle.std.proofs.Common.{◌≡◌, ℕ, ◌+◌, ◌≤◌, List, [], ◌∷◌, ◌++◌, length, take, drop, sym, ap, ◌∙◌, subst, arith}
use Rattle.std.proofs.lemmas.List.{map-append}
use Rattle.uc_run_entry.specs.Run.{Contents}
use Rattle.uc_compact.specs.Inputs.{AreNewestFirst, Stand}
use Rattle.uc_version_state.specs.Versions.{PlacedRun, Stored, IsVersion, contents_of}
use Rattle.uc_version_state.specs.Installs.{part_of}
use Rattle.uc_version_state.proofs.Parts.{in_parts, first-front, first-behind}
use Rattle.uc_version_compact.proofs.PartSlots.{part_length}

pub part_stands : (v : Stored) → IsVersion v → (first count : ℕ) → 2 ≤ count → first + count ≤ length v.runs → Stand (contents_of (part_of first count v.runs)) v.keeps
part_stands v is_version first count two within = record {
  some = λ none. no_runs (part_of first count v.runs) (let e = part_length v.runs first count within in omega (arith, e, two)) none;
  newest_first =
      first-front (contents_of (part_of first count v.runs)) (contents_of (drop (first + count) v.runs))
      (first-behind (contents_of (take first v.runs)) (contents_of (part_of first count v.runs) ++ contents_of (drop (first + count) v.runs))
      (subst AreNewestFirst (sym whole) is_version.newest_first));
  keeps_rise = is_version.keeps_rise;
}
  where
    no_runs : (ps : List PlacedRun) → 2 ≤ length ps → contents_of ps ≡ [] → ⊥
    no_runs [] l none = omega (arith, l)
    no_runs (p ∷ ps) l none = absurd cc

    whole : contents_of (take first v.runs) ++ (contents_of (part_of first count v.runs) ++ contents_of (drop (first + count) v.runs)) ≡ contents_of v.runs
    whole =
        ap (λ (rs : List Contents). contents_of (take first v.runs) ++ rs) (sym (map-append (λ (p : PlacedRun). p.run) (part_of first count v.runs) (drop (first + count) v.runs)))
        ∙ sym (map-append (λ (p : PlacedRun). p.run) (take first v.runs) (part_of first count v.runs ++ drop (first + count) v.runs))
        ∙ ap contents_of (in_parts first count v.runs)

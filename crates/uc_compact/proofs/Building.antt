-- The parts of a compaction's output make the run that its definition says.
use Rattle.std.proofs.Common.{◌≡◌, ℕ, ltb, List, length, filter, map, sym, ap, ◌∙◌, subst}
use Rattle.std.specs.Prelude.{Option}
use Rattle.std.specs.List.{flat_map}
use Rattle.uc_oper.specs.Operation.{Operation}
use Rattle.uc_run_entry.specs.declared.entry.Entry.{Entry}
use Rattle.uc_run_entry.specs.Fragment.{Fragment}
use Rattle.uc_run_entry.specs.Run.{Contents, IsRun}
use Rattle.uc_run_entry.specs.Cutting.{fragments_of}
use Rattle.uc_compact.specs.Inputs.{Compaction, points_of, ranges_of, keeping_of}
use Rattle.uc_compact.specs.Stripes.{Keeping}
use Rattle.uc_compact.specs.Choice.{points_for, points_named, seqs_over}
use Rattle.uc_compact.specs.Output.{keys_of, fragment_kept, output_of}

-- a run by its parts
pub is_run_by : (r : Contents) (low high : ℕ) (points : List Entry) (fragments : List Fragment) → low ≡ r.low → high ≡ r.high → points ≡ r.points → fragments ≡ r.fragments → IsRun r.low r.high r.points r.fragments → IsRun low high points fragments
is_run_by r low high points fragments e f p q h =
    subst (λ l. IsRun l high points fragments) (sym e) (subst (λ k. IsRun r.low k points fragments) (sym f) (subst (λ (ps : List Entry). IsRun r.low r.high ps fragments) (sym p) (subst (IsRun r.low r.high r.points) (sym q) h)))

pub run_by : (r : Contents) (low high : ℕ) (points : List Entry) (fragments : List Fragment) → low ≡ r.low → high ≡ r.high → points ≡ r.points → fragments ≡ r.fragments → (record { low = low; high = high; points = points; fragments = fragments }) ≡ r
run_by r low high points fragments e f p q = λ i. record { low = e i; high = f i; points = p i; fragments = q i }

-- ---- the parts, by what they were made with

module _ (m : Operation) (c : Compaction) where
  abbrev chosen : Keeping → List Entry
  chosen k = flat_map (λ key. points_for m k key (points_named key (points_of c.inputs)) (seqs_over key (fragments_of (ranges_of c.inputs)))) (keys_of c)

  pub points_by : (k : Keeping) (points : List Entry) → k ≡ keeping_of c → points ≡ chosen k → (output_of m c).points ≡ chosen (keeping_of c) → points ≡ (output_of m c).points
  points_by k points e made law = made ∙ ap chosen e ∙ sym law

  pub fragments_by : (k : Keeping) (fragments : List Fragment) → k ≡ keeping_of c → fragments ≡ filter (λ (f : Fragment). ltb 0 (length f.seqs)) (map (fragment_kept k) (fragments_of (ranges_of c.inputs))) → fragments ≡ (output_of m c).fragments
  fragments_by k fragments e made = made ∙ ap (λ j. filter (λ (f : Fragment). ltb 0 (length f.seqs)) (map (fragment_kept j) (fragments_of (ranges_of c.inputs)))) e

pub keeping_by : (c : Compaction) (k : Keeping) (bottom : Option ℕ) → k ≡ record { keeps = c.keeps; bottom = bottom } → bottom ≡ (keeping_of c).bottom → k ≡ keeping_of c
keeping_by c k bottom e f = e ∙ ap (λ (b : Option ℕ). record { keeps = c.keeps; bottom = b }) f

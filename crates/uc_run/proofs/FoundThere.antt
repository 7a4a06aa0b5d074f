-- The effect found at a place of a run is that of the run's writes.
use Rattle.std.proofs.Common.{◌≡◌, ℕ, List, [], ◌∷◌, filter, sym, ap, ◌∙◌}
use Rattle.std.specs.Prelude.{nat_le}
use Rattle.std.specs.List.{AllByRecursion, flat_map}
use Rattle.uc_oper.specs.Operation.{Operation}
use Rattle.uc_model.specs.Meaning.{effect_on}
use Rattle.uc_run_entry.specs.declared.entry.Entry.{Entry}
use Rattle.uc_run_entry.specs.Fragment.{Fragment}
use Rattle.uc_run_entry.specs.Order.{IsFalling}
use Rattle.uc_run_entry.specs.Run.{Contents, IsRun, IsWhole, covers}
use Rattle.uc_run_entry.specs.PlainList.{plain_list}
use Rattle.uc_run_entry.specs.Lookup.{is_visible, above_newest, effect_found}

pub all_falling : (low high : ℕ) (fs : List Fragment) → AllByRecursion (IsWhole low high) fs → AllByRecursion (λ f. IsFalling f.seqs) fs
all_falling low high [] h = tt
all_falling low high (f ∷ fs) h = (h.0.1, all_falling low high fs h.1)

module _ (m : Operation) (law : (run : Contents) (key : List ℕ) (at : ℕ) → IsRun run.low run.high run.points run.fragments → effect_on m (plain_list run) key at ≡ effect_found m run key at) (key : List ℕ) (at : ℕ) where
  abbrev seqs_of : List Fragment → List ℕ
  seqs_of fs = filter (λ seq. nat_le seq at) (flat_map (λ f. f.seqs) fs)

  pub does : (run : Contents) (points on : List Entry) (fragments over : List Fragment) → IsRun run.low run.high run.points run.fragments → points ≡ run.points → on ≡ filter (is_visible key at) points → fragments ≡ run.fragments → filter (λ f. covers f key) over ≡ filter (λ f. covers f key) fragments →
      above_newest m on (seqs_of (filter (λ f. covers f key) over)) ≡ effect_on m (plain_list run) key at
  does run points on fragments over is same_points here same_fragments there =
      ap (λ (fs : List Fragment). above_newest m on (seqs_of fs)) (there ∙ ap (λ (fs : List Fragment). filter (λ f. covers f key) fs) same_fragments)
      ∙ ap (λ (ps : List Entry). above_newest m ps (seqs_of (filter (λ f. covers f key) run.fragments))) (here ∙ ap (λ (ps : List Entry). filter (is_visible key at) ps) same_points)
      ∙ sym (law run key at is)

-- Reads of the run that replaces a compaction's inputs.
use Rattle.std.specs.Prelude.{◌≡◌, ◌⊎◌, ℕ, ◌≤◌, true, false, List, Contains, None}
use Rattle.std.specs.List.{AllByRecursion}
use Rattle.uc_oper.specs.Operation.{Operation}
use Rattle.uc_oper.specs.Composition.{applied}
use Rattle.uc_model.specs.Meaning.{effect_on, effect_within, value_of}
use Rattle.uc_run_entry.specs.Run.{Contents}
use Rattle.uc_run_entry.specs.PlainList.{plain_list}
use Rattle.uc_compact.specs.Stripes.{stripes, is_bottom}
use Rattle.uc_compact.specs.Inputs.{Compaction, high_of, writes_of, keeping_of}

-- a sequence of reads: a kept one, or one at or above the last
abbrev pub IsReadAt : List ℕ → ℕ → ℕ → Type 0
IsReadAt keeps last at = Contains keeps at ⊎ (last ≤ at)

-- At each sequence of reads the run's writes do to every key what the inputs' writes do, if something may lie below. In
-- any case they give every key the value that the inputs' writes give it.
pub record KeepsReads (m : Operation) (c : Compaction) (run : Contents) : Type 0 where
  pub effects : c.oldest ≡ false → (key : List ℕ) (at : ℕ) → IsReadAt c.keeps (high_of c.inputs) at → effect_on m (plain_list run) key at ≡ effect_on m (writes_of c.inputs) key at
  pub values : (key : List ℕ) (at : ℕ) → IsReadAt c.keeps (high_of c.inputs) at → value_of m (plain_list run) key at ≡ value_of m (writes_of c.inputs) key at

-- The run's writes of a stripe do to a key what the inputs' writes of that stripe do, if something may lie below. In
-- the bottom stripe, where nothing does, they give the same value.
pub record KeepsStripes (m : Operation) (c : Compaction) (run : Contents) : Type 0 where
  pub effects : (key : List ℕ) → AllByRecursion (λ s. is_bottom (keeping_of c) s ≡ false → effect_within m (plain_list run) key s.above s.upto ≡ effect_within m (writes_of c.inputs) key s.above s.upto) (stripes c.keeps)
  pub bottom : (key : List ℕ) → AllByRecursion (λ s. is_bottom (keeping_of c) s ≡ true → applied m (effect_within m (plain_list run) key s.above s.upto) None ≡ applied m (effect_within m (writes_of c.inputs) key s.above s.upto) None) (stripes c.keeps)

-- The inputs of a compaction.
use Rattle.std.specs.Prelude.{◌≢◌, ℕ, ◌<◌, Bool, List, [], ◌∷◌, ◌++◌, Some, None, map, ⊤, if◌then◌else◌}
use Rattle.std.specs.List.{AllByRecursion, flat_map}
use Rattle.std.specs.List.Sorted.{IsStrictlySortedBy}
use Rattle.std.specs.Ordering.{nat_cmp}
use Rattle.uc_bytes.specs.declared.write.Write.{Write}
use Rattle.uc_run_entry.specs.declared.entry.Entry.{Entry}
use Rattle.uc_run_entry.specs.Fragment.{Fragment}
use Rattle.uc_run_entry.specs.Run.{Contents, IsRun}
use Rattle.uc_run_entry.specs.PlainList.{plain_list}
use Rattle.uc_run_entry.specs.Cutting.{RangeOf}
use Rattle.uc_compact.specs.Stripes.{Keeping}

-- runs, the newest first; the kept sequences; and whether the last run is the oldest of all, so that nothing lies below
pub record Compaction : Type 0 where
  pub inputs : List Contents
  pub keeps : List ℕ
  pub oldest : Bool

abbrev pub AreRuns : List Contents → Type 0
AreRuns runs = AllByRecursion (λ r. IsRun r.low r.high r.points r.fragments) runs

-- all sequences of a run are above those of the runs after it
abbrev pub AreNewestFirst : List Contents → Type 0
AreNewestFirst [] = ⊤
AreNewestFirst (newest ∷ older) = AllByRecursion (λ r. r.high < newest.low) older × AreNewestFirst older

-- one run or more, the newest first, and keeps that rise
pub record Stand (inputs : List Contents) (keeps : List ℕ) : Type 0 where
  pub some : inputs ≢ []
  pub newest_first : AreNewestFirst inputs
  pub keeps_rise : IsStrictlySortedBy nat_cmp keeps

-- the range of sequences of the runs together
abbrev pub high_of : List Contents → ℕ
high_of [] = 0
high_of (newest ∷ older) = newest.high

abbrev pub low_of : List Contents → ℕ
low_of [] = 0
low_of (oldest ∷ []) = oldest.low
low_of (newer ∷ older ∷ runs) = low_of (older ∷ runs)

-- the plain lists of the runs, oldest first
abbrev pub writes_of : List Contents → List Write
writes_of [] = []
writes_of (newest ∷ older) = writes_of older ++ plain_list newest

-- the points of all runs, those of a newer run first
abbrev pub points_of : List Contents → List Entry
points_of runs = flat_map (λ r. r.points) runs

-- a fragment's range deletions
abbrev pub ranges_over : Fragment → List RangeOf
ranges_over f = map (λ seq. record { begin = f.begin; end = f.end; seq = seq }) f.seqs

-- the range deletions of all runs
abbrev pub ranges_of : List Contents → List RangeOf
ranges_of runs = flat_map ranges_over (flat_map (λ r. r.fragments) runs)

-- what it keeps: with the oldest run, the stripe of the inputs' least sequence is the bottom one
abbrev pub keeping_of : Compaction → Keeping
keeping_of c = record { keeps = c.keeps; bottom = if c.oldest then Some (low_of c.inputs) else None }

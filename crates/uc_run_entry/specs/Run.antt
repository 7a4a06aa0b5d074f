-- Runs, as a contract sees them.
use Rattle.std.specs.Prelude.{◌≡◌, ◌≢◌, ℕ, ◌<◌, ◌≤◌, ◌^◌, Bool, true, ◌&&◌, List, [], Contains}
use Rattle.std.specs.Ordering.{is_lt, is_le}
use Rattle.std.specs.List.{AllByRecursion}
use Rattle.std.specs.List.Sorted.{IsStrictlySortedBy}
use Rattle.uc_bytes.specs.Bytes.{bytes_cmp}
use Rattle.uc_run_entry.specs.declared.entry.Entry.{Entry}
use Rattle.uc_run_entry.specs.Fragment.{Fragment}
use Rattle.uc_run_entry.specs.Order.{entry_cmp, IsFalling, AreInOrder}

-- what is seen of a run: its range of sequences, its points, and its fragments
pub record Contents : Type 0 where
  pub low : ℕ
  pub high : ℕ
  pub points : List Entry
  pub fragments : List Fragment

-- a fragment covers the keys from its begin to below its end
abbrev pub covers : Fragment → List ℕ → Bool
covers f key = is_le (bytes_cmp f.begin key) && is_lt (bytes_cmp key f.end)

-- a sequence of the run's range
abbrev pub IsWithin : ℕ → ℕ → ℕ → Type 0
IsWithin low high seq = (low ≤ seq) × (seq ≤ high)

-- a fragment has sequences, which fall and lie in the range
abbrev pub IsWhole : ℕ → ℕ → Fragment → Type 0
IsWhole low high f = (f.seqs ≢ []) × IsFalling f.seqs × AllByRecursion (IsWithin low high) f.seqs

-- no fragment that covers the point's key has its sequence
abbrev pub IsApart : List Fragment → Entry → Type 0
IsApart fragments p = AllByRecursion (λ f. covers f p.key ≡ true → ¬ Contains f.seqs p.seq) fragments

-- These make a run.
pub record IsRun (low high : ℕ) (points : List Entry) (fragments : List Fragment) : Type 0 where
  -- a range of sequences that writes may have
  pub from_one : 1 ≤ low
  pub range : low ≤ high
  pub below : high < 2 ^ 56
  -- points by key, the newest of a key first, no two of one key with one sequence
  pub points_sorted : IsStrictlySortedBy entry_cmp points
  -- fragments by key, with keys, which don't overlap; each has sequences of the range, the newest first
  pub fragments_sorted : AreInOrder fragments
  pub whole : AllByRecursion (IsWhole low high) fragments
  -- the points' sequences lie in the range
  pub points_within : AllByRecursion (λ p. IsWithin low high p.seq) points
  -- no point has a sequence of a fragment that covers its key: one write has one sequence
  pub apart : AllByRecursion (IsApart fragments) points

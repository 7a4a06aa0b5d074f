-- Which runs the size ratio may collect together.
use Rattle.std.specs.Prelude.{◌≡◌, ℕ, ◌+◌, ◌*◌, ◌≤◌, ◌<◌, max, true, List, length, take, slice_index_or}
use Rattle.uc_version_state.specs.declared.options.Options.{Options}
use Rattle.uc_version_state.specs.declared.candidate.Candidate.{Candidate}
use Rattle.uc_version_state.specs.Picks.{total, are_unclaimed}

-- The first n of some runs may be collected. They are there, none is claimed, and they are at most `max_merge_width`
-- (one always may be). None but the first is larger than those before it together by more than `size_ratio` percent.
pub record MayBeCollected (o : Options) (runs : List Candidate) (n : ℕ) : Type 0 where
  pub there : n ≤ length runs
  pub unclaimed : are_unclaimed (take n runs) ≡ true
  pub room : n ≤ max 1 o.greatest
  pub within : (k : ℕ) (d : Candidate) → 0 < k → k < n → 100 * (slice_index_or runs k d).size ≤ (100 + o.ratio) * total (take k runs)

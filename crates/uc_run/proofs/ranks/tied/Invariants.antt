use Rattle.std.proofs.Common.{◌≡◌, ◌<◌, ℕ, slice_index}
use Rattle.uc_run.specs.Ranks.{high_in}
use Rattle.uc_run.proofs.ranks.tied.Given as goal

abbrev pub invariant-loop-place : goal.invariant-loop-place
invariant-loop-place l = (k : ℕ) → k < l.place → high_in l.bits (slice_index l.ranks k) ≡ high_in l.bits (slice_index l.ranks 0)

use Rattle.std.proofs.Common.{◌≡◌, ◌<◌, ℕ, length}
use Rattle.uc_run.specs.Filters.{HasBits}
use Rattle.uc_run.proofs.filter.add_bits.Given as goal

-- no bit is lost, and those of the other words so far are set
abbrev pub invariant-loop-place : goal.invariant-loop-place
invariant-loop-place l = record {
  count : length l.words ≡ length l.fn.words;
  kept : (place bits : ℕ) → HasBits l.fn.words place bits → HasBits l.words place bits;
  added : (place bits : ℕ) → place < l.place → HasBits l.other place bits → HasBits l.words place bits;
}

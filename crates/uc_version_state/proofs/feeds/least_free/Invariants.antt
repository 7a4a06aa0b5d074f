use Rattle.std.proofs.Common.{◌≡◌, ℕ, ◌+◌, length}
use Rattle.uc_version_state.specs.Versions.{slots_of}
use Rattle.uc_version_state.specs.Flushes.{free_from, least_free}
use Rattle.uc_version_state.proofs.feeds.least_free.Given as goal

abbrev pub invariant-loop-slot : goal.invariant-loop-slot
invariant-loop-slot l = (more : ℕ) × (l.slot + more ≡ length l.runs) × (least_free (slots_of l.runs) ≡ free_from more l.slot (slots_of l.runs))

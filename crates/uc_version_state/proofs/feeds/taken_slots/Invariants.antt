use Rattle.std.proofs.Common.{◌≡◌, drop, length}
use Rattle.uc_version_state.specs.Versions.{slots_of}
use Rattle.uc_version_state.proofs.Flagged.{AreSoFar}
use Rattle.uc_version_state.proofs.feeds.taken_slots.Given as goal

abbrev pub invariant-loop-placed : goal.invariant-loop-placed
invariant-loop-placed l = record {
  long : length l.taken.items ≡ length l.runs;
  so_far : AreSoFar l.taken.items (slots_of (drop l.placed-index l.runs)) (slots_of l.runs);
}

use Rattle.std.proofs.Common.{◌≡◌, length, take}
use Rattle.uc_claims.specs.declared.table.TheConstants.{MOST_SLOTS}
use Rattle.uc_version_state.specs.Versions as versions
use Rattle.uc_version_compact.proofs.runs.slots_of.Given as goal

abbrev pub invariant-loop-place : goal.invariant-loop-place
invariant-loop-place l = record {
  long : length l.slots ≡ MOST_SLOTS;
  filled : take l.place l.slots ≡ versions.slots_of (take l.place l.runs);
}

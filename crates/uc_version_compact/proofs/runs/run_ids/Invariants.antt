use Rattle.std.proofs.Common.{◌≡◌, length, take}
use Rattle.uc_claims.specs.declared.table.TheConstants.{MOST_SLOTS}
use Rattle.uc_version_state.specs.Versions.{ids_of}
use Rattle.uc_version_compact.proofs.runs.run_ids.Given as goal

abbrev pub invariant-loop-place : goal.invariant-loop-place
invariant-loop-place l = record {
  long : length l.ids ≡ MOST_SLOTS;
  filled : take l.place l.ids ≡ ids_of (take l.place l.runs);
}

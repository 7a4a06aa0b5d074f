use Rattle.std.proofs.Common.{◌≡◌, false, length, map, take}
use Rattle.std.specs.Prelude.{slice_index_or}
use Rattle.uc_claims.specs.declared.table.TheConstants.{MOST_SLOTS}
use Rattle.uc_version_compact.specs.Picking.{candidate_of}
use Rattle.uc_version_compact.proofs.candidates.candidates.Given as goal

abbrev pub invariant-loop-place : goal.invariant-loop-place
invariant-loop-place l = record {
  long : length l.all ≡ MOST_SLOTS;
  filled : take l.place l.all ≡ map (candidate_of (λ slot. slice_index_or l.busy slot false)) (take l.place l.runs);
}

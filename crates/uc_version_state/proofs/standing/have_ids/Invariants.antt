use Rattle.std.proofs.Common.{◌≡◌, take}
use Rattle.uc_version_state.specs.Versions.{ids_of}
use Rattle.uc_version_state.proofs.standing.have_ids.Given as goal

abbrev pub invariant-loop-place : goal.invariant-loop-place
invariant-loop-place l = ids_of (take l.place l.runs) ≡ take l.place l.ids

use Rattle.std.proofs.Common.{◌≡◌, map, take}
use Rattle.std.specs.Arc.{arc_value}
use Rattle.uc_version_state.specs.Versions.{contents_of}
use Rattle.uc_version_compact.proofs.refusal.are_inputs.Given as goal

abbrev pub invariant-loop-place : goal.invariant-loop-place
invariant-loop-place g l = take l.place (map arc_value l.inputs) ≡ contents_of (take l.place l.runs)

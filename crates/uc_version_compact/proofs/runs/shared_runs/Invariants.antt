use Rattle.std.proofs.Common.{◌≡◌, map, take}
use Rattle.std.specs.Arc.{arc_value}
use Rattle.uc_version_state.specs.Versions.{contents_of}
use Rattle.uc_version_compact.proofs.runs.shared_runs.Given as goal

abbrev pub invariant-loop-placed : goal.invariant-loop-placed
invariant-loop-placed l = map arc_value l.shared.items ≡ contents_of (take l.placed-index l.runs)

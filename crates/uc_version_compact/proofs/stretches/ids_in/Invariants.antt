use Rattle.std.proofs.Common.{◌≡◌, take}
use Rattle.uc_version_state.specs.Versions.{ids_of}
use Rattle.uc_version_compact.proofs.stretches.ids_in.Given as goal

abbrev pub invariant-loop-placed : goal.invariant-loop-placed
invariant-loop-placed l = l.ids.items ≡ ids_of (take l.placed-index l.runs)

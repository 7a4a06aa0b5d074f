use Rattle.std.proofs.Common.{◌≡◌, map, take}
use Rattle.std.specs.Arc.{arc_value}
use Rattle.uc_version_compact.specs.Compacting.{size_of_runs}
use Rattle.uc_version_compact.proofs.asked.size_of_runs.Given as goal

abbrev pub invariant-loop-run : goal.invariant-loop-run
invariant-loop-run l = l.size ≡ size_of_runs (map arc_value (take l.run-index l.runs))

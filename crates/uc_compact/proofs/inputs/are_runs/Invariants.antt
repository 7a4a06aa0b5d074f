use Rattle.std.proofs.Common.{map, take}
use Rattle.std.specs.Arc.{arc_value}
use Rattle.uc_compact.specs.Inputs.{AreRuns}
use Rattle.uc_compact.proofs.inputs.are_runs.Given as goal

abbrev pub invariant-loop-run : goal.invariant-loop-run
invariant-loop-run l = AreRuns (map arc_value (take l.run-index l.inputs))

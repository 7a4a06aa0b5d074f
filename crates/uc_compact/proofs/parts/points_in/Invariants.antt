use Rattle.std.proofs.Common.{◌≡◌, map, take}
use Rattle.std.specs.Arc.{arc_value}
use Rattle.uc_compact.specs.Parts.{points_of_each}
use Rattle.uc_compact.proofs.parts.points_in.Given as goal

abbrev pub invariant-loop-run : goal.invariant-loop-run
invariant-loop-run l = l.runs.items ≡ points_of_each (map arc_value (take l.run-index l.inputs))

use Rattle.std.proofs.Common.{◌≡◌, map, take}
use Rattle.std.specs.Arc.{arc_value}
use Rattle.uc_compact.specs.Pieces.{fragments_in}
use Rattle.uc_compact.proofs.fronts.fronts_of.Given as goal

abbrev pub invariant-loop-run : goal.invariant-loop-run
invariant-loop-run l = fragments_in l.fronts.items ≡ fragments_in (map arc_value (take l.run-index l.inputs))

-- A requested compaction, and its result.
use Rattle.std.specs.Prelude.{◌≡◌, map}
use Rattle.std.specs.Arc.{arc_value}
use Rattle.uc_oper.specs.Operation.{Operation}
use Rattle.uc_compact.specs.Inputs.{Compaction, AreRuns, Stand}
use Rattle.uc_compact.specs.Output.{output_of}
use Rattle.uc_compact.specs.declared.compacted.Compacted.TheInside.{Inside}

abbrev pub asked : {O : Type 0} → Inside O → Compaction
asked i = record { inputs = map arc_value i.inputs.items; keeps = i.keeps.items; oldest = i.oldest }

-- the runs may be compacted together, and the output is the run that they become
pub record IsMade {O : Type 0} (m : Operation) (i : Inside O) : Type 0 where
  pub runs : AreRuns (asked i).inputs
  pub stand : Stand (asked i).inputs (asked i).keeps
  pub output : arc_value i.output ≡ output_of m (asked i)

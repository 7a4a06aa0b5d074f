-- How it is held what is asked of a compaction.
use Rattle.std.specs.Prelude.{map}
use Rattle.std.specs.Arc.{arc_value}
use Rattle.uc_compact.specs.Inputs.{Compaction, Stand}
use Rattle.uc_version_compact.specs.declared.asked.Asked.TheInside.{Inside}

abbrev pub asked : Inside → Compaction
asked i = record { inputs = map arc_value i.inputs.items; keeps = i.keeps.items; oldest = i.oldest }

-- the runs may be compacted together under the keeps
abbrev pub IsAsked : Inside → Type 0
IsAsked i = Stand (asked i).inputs (asked i).keeps

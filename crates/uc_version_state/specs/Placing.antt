-- How a placed run is held.
use Rattle.std.specs.Arc.{arc_value}
use Rattle.uc_version_state.specs.Versions.{PlacedRun}
use Rattle.uc_version_state.specs.declared.placed.Placed.TheInside.{Inside}

abbrev pub placed : Inside → PlacedRun
placed i = record { id = i.id; slot = i.slot; run = arc_value i.run }

-- How a version is held.
use Rattle.uc_version_state.specs.Versions.{Stored, IsVersion}
use Rattle.uc_version_state.specs.declared.version.Version.TheInside.{Inside}

abbrev pub stored : Inside → Stored
stored i = record { runs = i.runs.items; keeps = i.keeps.items; last = i.last; next_id = i.next_id; limit = i.limit }

-- what is held is a version
abbrev pub HoldsVersion : Inside → Type 0
HoldsVersion i = IsVersion (stored i)

-- Parts of the inputs.
use Rattle.std.specs.Prelude.{List, map}
use Rattle.uc_run_entry.specs.declared.entry.Entry.{Entry}
use Rattle.uc_run_entry.specs.Run.{Contents}

-- the points of each run
abbrev pub points_of_each : List Contents → List (List Entry)
points_of_each runs = map (λ r. r.points) runs

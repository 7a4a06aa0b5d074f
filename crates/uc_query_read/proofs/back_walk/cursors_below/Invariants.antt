use Rattle.std.proofs.Common.{◌≡◌, map, take}
use Rattle.std.specs.List.{AllByRecursion}
use Rattle.uc_version_state.specs.Versions.{contents_of}
use Rattle.uc_query_read.specs.Back.{standing_below}
use Rattle.uc_query_read.specs.Walks.{IsOfRun}
use Rattle.uc_query_read.proofs.back_walk.cursors_below.Given as goal

abbrev pub invariant-loop-placed : goal.invariant-loop-placed
invariant-loop-placed l = record {
  cursors : l.cursors.items ≡ map (standing_below l.high) (contents_of (take l.placed-index l.runs));
  of_runs : AllByRecursion IsOfRun l.cursors.items;
}

use Rattle.std.proofs.Common.{◌≡◌, false, map, take}
use Rattle.std.specs.List.{AllByRecursion}
use Rattle.uc_version_state.specs.Versions.{contents_of}
use Rattle.uc_query_read.specs.Walks.{standing_at, IsOfRun}
use Rattle.uc_query_read.proofs.walkers.cursors_from.Given as goal

abbrev pub invariant-loop-placed : goal.invariant-loop-placed
invariant-loop-placed l = record {
  cursors : l.cursors.items ≡ map (standing_at l.low false) (contents_of (take l.placed-index l.runs));
  of_runs : AllByRecursion IsOfRun l.cursors.items;
}

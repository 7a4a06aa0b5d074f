-- How a walk against the order of keys is held.
use Rattle.std.specs.Prelude.{◌≡◌, false, option_map, IsTrue}
use Rattle.std.specs.List.{AllByRecursion}
use Rattle.uc_run.specs.Cursors.{has_ranges}
use Rattle.uc_query_read.specs.Back.{back_walk_at, bound_of, StandsBelow}
use Rattle.uc_query_read.specs.Walks.{Walk, runs_of, IsOfRun}
use Rattle.uc_query_read.specs.declared.back_walk.BackWalk.TheInside.{Inside}

-- the keys of the runs' points that are still ahead, the greatest first
abbrev pub walk : Inside → Walk
walk k = back_walk_at k.low.now (bound_of (option_map (λ high. high.now) k.high) k.is_included) (runs_of k.cursors.items)

-- the cursors are in runs, and after the points of these keys
pub record AreThere (k : Inside) : Type 0 where
  pub stand : AllByRecursion (StandsBelow (bound_of (option_map (λ high. high.now) k.high) k.is_included)) k.cursors.items
  pub of_runs : AllByRecursion IsOfRun k.cursors.items
  -- it is known that no run has range deletions
  pub plain : IsTrue k.is_plain → AllByRecursion (λ c. has_ranges c ≡ false) k.cursors.items

-- How a walk over the points of several runs is held.
use Rattle.std.specs.List.{AllByRecursion}
use Rattle.uc_query_read.specs.Walks.{Walk, walk_at, runs_of, StandsAt}
use Rattle.uc_query_read.specs.declared.cursors.Cursors.TheInside.{Inside}

-- the keys of the runs' points that are still ahead
abbrev pub walk : Inside → Walk
walk k = walk_at k.low.now k.strict k.high.now (runs_of k.walkers.cursors)

-- the cursors are before the points of these keys
abbrev pub AreThere : Inside → Type 0
AreThere k = AllByRecursion (StandsAt k.low.now k.strict) k.walkers.cursors

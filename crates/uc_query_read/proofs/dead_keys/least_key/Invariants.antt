use Rattle.std.proofs.Common.{ℕ, Bool, List, option_map, take}
use Rattle.std.specs.List.{AllByRecursion}
use Rattle.uc_run.specs.NextKey.{IsNextKey}
use Rattle.uc_compact.specs.Inputs.{points_of}
use Rattle.uc_query_read.specs.Walks.{runs_of, StandsAt}
use Rattle.uc_query_read.proofs.dead_keys.least_key.Given as goal

-- the least key of the runs so far
abbrev pub invariant-loop-cursor : goal.invariant-loop-cursor
invariant-loop-cursor l =
    (low : List ℕ) (strict : Bool) → AllByRecursion (StandsAt low strict) l.cursors → IsNextKey (points_of (runs_of (take l.cursor-index l.cursors))) low strict (option_map (λ k. k.now) l.least)

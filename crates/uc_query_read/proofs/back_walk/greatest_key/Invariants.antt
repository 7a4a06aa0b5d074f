use Rattle.std.proofs.Common.{ℕ, List, Option, option_map, take}
use Rattle.std.specs.List.{AllByRecursion}
use Rattle.uc_run.specs.BackCursors.{IsPreviousKey}
use Rattle.uc_compact.specs.Inputs.{points_of}
use Rattle.uc_query_read.specs.Back.{StandsBelow}
use Rattle.uc_query_read.specs.Walks.{runs_of}
use Rattle.uc_query_read.proofs.back_walk.greatest_key.Given as goal

-- the greatest key of the runs so far
abbrev pub invariant-loop-cursor : goal.invariant-loop-cursor
invariant-loop-cursor l =
    (high : Option (List ℕ)) → AllByRecursion (StandsBelow high) l.cursors → IsPreviousKey (points_of (runs_of (take l.cursor-index l.cursors))) high (option_map (λ k. k.now) l.greatest)

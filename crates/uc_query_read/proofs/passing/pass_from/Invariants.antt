use Rattle.std.proofs.Common.{◌≡◌, ◌-◌, ◌≤◌, List, length, map, false}
use Rattle.std.specs.List.{AllByRecursion}
use Rattle.uc_run.specs.Cursors.{Standing}
use Rattle.uc_run.specs.Heads.{next_key}
use Rattle.uc_query_read.specs.Walks.{ArePassedTo, IsOfRun, StandsAt}
use Rattle.uc_query_read.proofs.passing.pass_from.Given as goal

-- the cursors so far are after the key, and their next keys beside them
pub record Passed (l : goal.Live-loop-place) : Type 0 where
  pub within : l.place ≤ length l.fn.cursors
  pub cursors : (all : List Standing) → AllByRecursion (StandsAt l.head.key.now false) all → AllByRecursion IsOfRun all → length l.fn.cursors ≡ length all → ArePassedTo l.head.key.now all l.fn.cursors l.from → ArePassedTo l.head.key.now all l.cursors l.place
  pub heads : l.heads.keys ≡ map next_key l.cursors
  pub front : l.heads.front ≡ l.fn.heads.front

abbrev pub invariant-loop-place : goal.invariant-loop-place
invariant-loop-place l = Passed l

abbrev pub decreases-loop-place : goal.decreases-loop-place
decreases-loop-place l = length l.cursors - l.place

use Rattle.std.proofs.Common.{◌≡◌, ◌++◌, map, take, drop}
use Rattle.uc_query_read.specs.Back.{passed_back}
use Rattle.uc_query_read.proofs.back_walk.pass_each.Given as goal

-- the cursors so far are before the points at and above the key
abbrev pub invariant-loop-place : goal.invariant-loop-place
invariant-loop-place l = l.cursors ≡ map (passed_back l.key) (take l.place l.fn.cursors) ++ drop l.place l.fn.cursors

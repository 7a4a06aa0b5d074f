use Rattle.std.proofs.Common.{◌≡◌, ◌++◌, map, take, drop}
use Rattle.uc_run.specs.Heads.{next_key}
use Rattle.uc_query_read.specs.Walks.{sought}
use Rattle.uc_query_read.proofs.passing.seek_each.Given as goal

-- the cursors so far are past the points below the key, and their next keys beside them
abbrev pub invariant-loop-place : goal.invariant-loop-place
invariant-loop-place l = record {
  cursors : l.cursors ≡ map (sought l.low) (take l.place l.fn.cursors) ++ drop l.place l.fn.cursors;
  heads : l.heads.keys ≡ map next_key l.cursors;
}

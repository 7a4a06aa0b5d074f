use Rattle.std.proofs.Common.{◌≡◌, None, take}
use Rattle.std.specs.List.{AllByRecursion, AllWithin}
use Rattle.uc_run.specs.Hiding.{hidden_to}
use Rattle.uc_query_read.specs.Walks.{IsOfRun}
use Rattle.uc_query_read.proofs.dead_keys.hidden_by.Given as goal

-- none of the runs so far hides the key
abbrev pub invariant-loop-place : goal.invariant-loop-place
invariant-loop-place l = record {
  first : AllWithin (λ c. hidden_to c.run l.key l.at ≡ None) l.cursors 0 l.place;
  are_runs : AllByRecursion IsOfRun (take l.place l.cursors);
}

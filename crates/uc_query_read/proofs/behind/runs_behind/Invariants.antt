use Rattle.std.proofs.Common.{◌≡◌, ◌++◌, take}
use Rattle.uc_query_read.proofs.behind.runs_behind.Given as goal

abbrev pub invariant-loop-placed : goal.invariant-loop-placed
invariant-loop-placed l = l.all.items ≡ l.initial.all.items ++ take l.placed-index l.runs

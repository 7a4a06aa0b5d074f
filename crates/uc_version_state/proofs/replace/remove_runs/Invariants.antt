use Rattle.std.proofs.Common.{◌≡◌, ◌+◌, ◌++◌, length, take, drop}
use Rattle.uc_version_state.proofs.replace.remove_runs.Given as goal

abbrev pub invariant-loop : goal.invariant-loop
invariant-loop l = record {
  left : l.runs.items ≡ take l.first l.initial.runs.items ++ drop (l.first + l.counter) l.initial.runs.items;
  fewer : length l.runs.items + l.counter ≡ length l.initial.runs.items;
}

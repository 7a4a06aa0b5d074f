use Rattle.std.proofs.Common.{◌++◌}
use Rattle.uc_run_file.proofs.PieceSums.{AreSummed}
use Rattle.uc_run_file.proofs.pieces.push_sums.Given as goal

abbrev pub invariant-loop : goal.invariant-loop
invariant-loop l = AreSummed (l.first ++ l.second) (l.rest.first.now ++ l.rest.second.now) l.fn.table.items l.table.items l.counter

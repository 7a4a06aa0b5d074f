use Rattle.std.proofs.Common.{◌≡◌, drop}
use Rattle.uc_rows.proofs.row_iter.RowIter.pass.Given as goal

abbrev pub invariant-loop : goal.invariant-loop
invariant-loop l = l.self ≡ drop l.counter l.fn.self

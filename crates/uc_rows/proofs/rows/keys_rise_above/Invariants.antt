use Rattle.std.proofs.Common.{◌↔◌}
use Rattle.uc_rows.proofs.RowOrder.{RiseAbove}
use Rattle.uc_rows.proofs.rows.keys_rise_above.Given as goal

abbrev pub invariant-loop-key : goal.invariant-loop-key
invariant-loop-key l = RiseAbove l.last l.key-iterator ↔ RiseAbove l.first l.fn.rows

use Rattle.std.proofs.Common.{sym, subst}
use Rattle.uc_rows.specs.Rising.{KeysRise}
use Rattle.uc_rows.proofs.RowOrder.{none_rise}
use Rattle.uc_rows.proofs.rows.Rows.new.Goals as goal

pub invariant_of-result : goal.invariant_of-result
invariant_of-result c = subst KeysRise (sym c.new.ensures) none_rise

use Rattle.uc_rows.proofs.RowsAgain.{none_ahead, none_spelled}
use Rattle.uc_rows.proofs.row_buffer.RowBuffer.new.Goals as goal

pub invariant_of-result : goal.invariant_of-result
invariant_of-result c = none_spelled c.new.result.items c.new.ensures.items

pub returns : goal.returns
returns c = none_ahead c.new.result.items

use Rattle.uc_rows.proofs.RowsAgain.{none_ahead, none_spelled}
use Rattle.uc_rows.proofs.row_buffer.RowBuffer.with_capacity.Goals as goal

pub invariant_of-result : goal.invariant_of-result
invariant_of-result c = none_spelled c.in_ok-with_capacity.field-0.items c.in_ok-with_capacity.ensures.items

pub returns : goal.returns
returns c = none_ahead c.in_ok-with_capacity.field-0.items

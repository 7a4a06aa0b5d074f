use Rattle.uc_query_read.proofs.FirstRows.{rows_first}
use Rattle.uc_query_read.proofs.answer_laws.scan_rows_are_first.Goals as goal

pub returns : goal.returns
returns g c = rows_first g.O.Operator.meaning

use Rattle.uc_query_read.proofs.FirstRows.{rows_once}
use Rattle.uc_query_read.proofs.answer_laws.scan_rows_are_determined.Goals as goal

pub returns : goal.returns
returns g c = rows_once g.O.Operator.meaning

use Rattle.uc_query_read.proofs.AnswerLaws.{scan_answered}
use Rattle.uc_query_read.proofs.answer_laws.scan_is_answered_by_first_rows.Goals as goal

pub returns : goal.returns
returns g c = scan_answered g.O.Operator.meaning

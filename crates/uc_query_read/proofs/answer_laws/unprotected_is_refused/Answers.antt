use Rattle.uc_query_read.proofs.AnswerLaws.{refused}
use Rattle.uc_query_read.proofs.answer_laws.unprotected_is_refused.Goals as goal

pub returns : goal.returns
returns g c = refused g.O.Operator.meaning

use Rattle.uc_query_read.proofs.AnswerLaws.{answers_alike}
use Rattle.uc_query_read.proofs.answer_laws.equal_values_give_equal_answers.Goals as goal

pub returns : goal.returns
returns g c = answers_alike g.O.Operator.meaning

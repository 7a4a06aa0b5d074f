use Rattle.uc_history.proofs.Moments.{sees_moment}
use Rattle.uc_history.proofs.laws.each_read_sees_a_moment.Goals as goal

pub returns : goal.returns
returns g c = λ before during after call query answer. sees_moment g.O.Operator.meaning before during call query answer after

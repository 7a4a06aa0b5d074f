use Rattle.uc_serial.proofs.Untouched.{stays}
use Rattle.uc_serial.proofs.laws.what_was_read_stays.Goals as goal

pub returns : goal.returns
returns g c = stays g.O.Operator.meaning c.equal_values_give_equal_answers.ensures c.later_writes_change_nothing.ensures.value

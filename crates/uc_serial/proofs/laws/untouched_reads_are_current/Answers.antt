use Rattle.uc_serial.proofs.Untouched.{untouched_current}
use Rattle.uc_serial.proofs.laws.untouched_reads_are_current.Goals as goal

pub returns : goal.returns
returns g c = untouched_current g.O.Operator.meaning

use Rattle.uc_serial.proofs.Unchanged.{may_commit}
use Rattle.uc_serial.proofs.read_laws.reads_of_equal_values_are_current.Goals as goal

pub returns : goal.returns
returns g c = may_commit g.O.Operator.meaning

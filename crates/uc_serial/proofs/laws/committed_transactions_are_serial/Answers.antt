use Rattle.uc_serial.proofs.Untouched.{serial}
use Rattle.uc_serial.proofs.laws.committed_transactions_are_serial.Goals as goal

pub returns : goal.returns
returns g c = serial g.O.Operator.meaning (λ ws low high key. (c.scan_keys_are_named.ensures ws low high key).0)

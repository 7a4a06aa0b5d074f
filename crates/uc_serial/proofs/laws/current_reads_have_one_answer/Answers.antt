use Rattle.uc_serial.proofs.Untouched.{one_answer}
use Rattle.uc_serial.proofs.laws.current_reads_have_one_answer.Goals as goal

pub returns : goal.returns
returns g c = one_answer g.O.Operator.meaning (λ ws low high key. (c.scan_keys_are_named.ensures ws low high key).0)

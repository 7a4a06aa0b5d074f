use Rattle.uc_serial.proofs.Ranges.{some_key, some_range}
use Rattle.uc_serial.proofs.laws.written_ranges_have_written_keys.Goals as goal

pub returns : goal.returns
returns c log low high since = (some_key low high since log, λ there. some_range low high since there.0 there.1 log there.2)

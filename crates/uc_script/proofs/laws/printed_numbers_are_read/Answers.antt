use Rattle.uc_script.proofs.Printed.{number_of-decimal}
use Rattle.uc_script.proofs.laws.printed_numbers_are_read.Goals as goal

pub returns : goal.returns
returns c = number_of-decimal

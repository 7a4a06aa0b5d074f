use Rattle.uc_script.proofs.Printed.{text_of-digits, text_of-dot}
use Rattle.uc_script.proofs.laws.digits_are_read.Goals as goal

pub returns-clause-some : goal.returns-clause-some
returns-clause-some c = text_of-digits

pub returns-clause-none : goal.returns-clause-none
returns-clause-none c = text_of-dot

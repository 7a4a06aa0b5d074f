use Rattle.uc_script.proofs.PrintedFaults.{line_shown, line_short}
use Rattle.uc_script.proofs.fault_laws.a_shortened_line_is_short.Goals as goal

pub returns-clause-printable : goal.returns-clause-printable
returns-clause-printable c = line_shown

pub returns-clause-short : goal.returns-clause-short
returns-clause-short c = line_short

use Rattle.uc_logrec.proofs.Quotients.{has_division, has_one_remainder}
use Rattle.uc_logrec.proofs.crc_laws.division.Goals as goal

pub returns-clause-exists : goal.returns-clause-exists
returns-clause-exists c = has_division

pub returns-clause-unique : goal.returns-clause-unique
returns-clause-unique c = has_one_remainder

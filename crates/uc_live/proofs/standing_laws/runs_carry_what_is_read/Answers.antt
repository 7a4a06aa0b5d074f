use Rattle.std.proofs.Common.{refl}
use Rattle.uc_live.proofs.Standing.{stands_opened}
use Rattle.uc_live.proofs.standing_laws.runs_carry_what_is_read.Goals as goal

pub returns-clause-first : goal.returns-clause-first
returns-clause-first g c l run = refl

pub returns-clause-opened : goal.returns-clause-opened
returns-clause-opened g c = stands_opened g.O.Operator.meaning

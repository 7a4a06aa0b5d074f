use Rattle.uc_share.proofs.TurnsEnd.{refused_late}
use Rattle.uc_share.proofs.turn.refused_turn.Goals as goal

pub returns-in_default : goal.returns-in_default
returns-in_default c = refused_late c.args.error c.in_default.not-Memory

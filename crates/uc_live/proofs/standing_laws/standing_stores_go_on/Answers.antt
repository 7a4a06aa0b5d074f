use Rattle.uc_live.proofs.Standing.{stands_on, stands_snapshot, stands_release}
use Rattle.uc_live.proofs.standing_laws.standing_stores_go_on.Goals as goal

pub returns-clause-goes_on : goal.returns-clause-goes_on
returns-clause-goes_on g c = stands_on g.O.Operator.meaning g.met.O.Operator.lawful c.flushed_writes_are_a_run.ensures c.flush_keeps_every_effect.ensures

pub returns-clause-snapshot : goal.returns-clause-snapshot
returns-clause-snapshot g c = stands_snapshot g.O.Operator.meaning g.met.O.Operator.lawful c.flushed_writes_are_a_run.ensures c.flush_keeps_every_effect.ensures

pub returns-clause-release : goal.returns-clause-release
returns-clause-release g c = stands_release g.O.Operator.meaning g.met.O.Operator.lawful c.flushed_writes_are_a_run.ensures c.flush_keeps_every_effect.ensures

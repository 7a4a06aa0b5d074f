use Rattle.uc_version_state.proofs.Opened.{effects_stay}
use Rattle.uc_version_state.proofs.laws.opening_keeps_every_effect.Goals as goal

pub returns : goal.returns
returns g c o key at may = effects_stay c.flushed_writes_are_a_run.ensures o may g.O.Operator.meaning g.met.O.Operator.lawful c.flush_keeps_every_effect.ensures key at

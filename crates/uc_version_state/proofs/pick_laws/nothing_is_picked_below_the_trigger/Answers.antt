use Rattle.uc_version_state.proofs.Picked.{below}
use Rattle.uc_version_state.proofs.pick_laws.nothing_is_picked_below_the_trigger.Goals as goal

pub returns : goal.returns
returns c o runs l = below o runs l

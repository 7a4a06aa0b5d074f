use Rattle.uc_version_state.proofs.Picked.{progress}
use Rattle.uc_version_state.proofs.pick_laws.something_is_picked_above_the_trigger.Goals as goal

pub returns : goal.returns
returns c o runs k good many two = progress o runs k good many two

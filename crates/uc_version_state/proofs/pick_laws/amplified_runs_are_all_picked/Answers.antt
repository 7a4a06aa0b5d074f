use Rattle.uc_version_state.proofs.Picked.{amplified}
use Rattle.uc_version_state.proofs.pick_laws.amplified_runs_are_all_picked.Goals as goal

pub returns : goal.returns
returns c o runs = amplified o runs

use Rattle.uc_version_state.proofs.Opened.{opened_is_version}
use Rattle.uc_version_state.proofs.laws.opening_gives_a_version.Goals as goal

pub returns : goal.returns
returns c o may = opened_is_version c.flushed_writes_are_a_run.ensures o may

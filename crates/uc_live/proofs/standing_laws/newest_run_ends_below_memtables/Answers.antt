use Rattle.uc_live.proofs.Standing.{newest_ends}
use Rattle.uc_live.proofs.standing_laws.newest_run_ends_below_memtables.Goals as goal

pub returns : goal.returns
returns c = newest_ends

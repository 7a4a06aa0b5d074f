use Rattle.uc_version_state.proofs.Small.{one_memtable}
use Rattle.uc_version_state.proofs.laws.small_writes_fill_one_memtable.Goals as goal

pub returns : goal.returns
returns c = one_memtable

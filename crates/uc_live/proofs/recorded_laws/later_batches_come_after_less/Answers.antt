use Rattle.uc_live.proofs.Later.{comes_after}
use Rattle.uc_live.proofs.recorded_laws.later_batches_come_after_less.Goals as goal

pub returns : goal.returns
returns c less last bytes writes behind read = comes_after less last bytes writes behind read

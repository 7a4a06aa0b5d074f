use Rattle.std.proofs.Common.{arith}
use Rattle.uc_run_entry.proofs.SeqsFall.{from_by}
use Rattle.uc_run_entry.proofs.checking.are_from.Goals as goal

pub returns-else-low-eq0 : goal.returns-else-low-eq0
returns-else-low-eq0 c = from_by c.args.low c.args.seqs.now c.newest_at_or_below.result c.is_none.result (omega arith) c.newest_at_or_below.ensures c.is_none.ensures

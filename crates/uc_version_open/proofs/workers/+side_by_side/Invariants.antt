use Rattle.std.proofs.Common.{length}
use Rattle.uc_version_open.proofs.workers.+side_by_side.Given as goal

abbrev pub decreases-flush_side_by_side : goal.decreases-flush_side_by_side
decreases-flush_side_by_side g l = length l.full.now

abbrev pub decreases-join+arg2 : goal.decreases-join+arg2
decreases-join+arg2 g l = length l.older.now

abbrev pub decreases-join+arg3 : goal.decreases-join+arg3
decreases-join+arg3 g l = length l.newer.now

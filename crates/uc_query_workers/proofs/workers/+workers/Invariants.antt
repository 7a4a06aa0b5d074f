use Rattle.std.proofs.Common.{◌+◌, ◌*◌}
use Rattle.uc_query_workers.proofs.workers.+workers.Given as goal

abbrev pub decreases-drawn_by_workers : goal.decreases-drawn_by_workers
decreases-drawn_by_workers g l = 2 * l.workers

abbrev pub decreases-others : goal.decreases-others
decreases-others g l = 2 * l.fewer + 1

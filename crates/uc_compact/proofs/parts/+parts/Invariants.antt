use Rattle.std.proofs.Common.{◌+◌, ◌*◌, length}
use Rattle.uc_compact.proofs.parts.+parts.Given as goal

abbrev pub decreases-kept_between : goal.decreases-kept_between
decreases-kept_between g l = 2 * length l.cuts.now

abbrev pub decreases-others : goal.decreases-others
decreases-others g l = 2 * length l.fewer.now + 1

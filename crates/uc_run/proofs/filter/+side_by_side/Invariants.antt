use Rattle.std.proofs.Common.{◌+◌, ◌*◌, ◌/◌}
use Rattle.uc_run.proofs.filter.+side_by_side.Given as goal

abbrev pub decreases-words_by_parts : goal.decreases-words_by_parts
decreases-words_by_parts g l = 2 * l.parts

abbrev pub decreases-join+arg2 : goal.decreases-join+arg2
decreases-join+arg2 g l = 2 * (l.parts / 2) + 1

abbrev pub decreases-join+arg3 : goal.decreases-join+arg3
decreases-join+arg3 g l = 2 * (l.parts / 2) + 1

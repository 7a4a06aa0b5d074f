use Rattle.std.proofs.Common.{◌≡◌, Some, length}
use Rattle.uc_mixed.specs.Sets as sets
use Rattle.uc_mixed.proofs.set.is_set_of_members.Given as goal

abbrev pub invariant-loop-before : goal.invariant-loop-before
invariant-loop-before l = sets.is_set_of_members l.set ≡ sets.ascends (Some l.before) l.rest

abbrev pub decreases-loop-before : goal.decreases-loop-before
decreases-loop-before l = length l.rest

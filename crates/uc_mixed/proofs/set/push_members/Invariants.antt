use Rattle.std.proofs.Common.{◌≡◌, ◌++◌, length}
use Rattle.uc_mixed.specs.Sets as sets
use Rattle.uc_mixed.proofs.set.push_members.Given as goal

abbrev pub invariant-loop-member : goal.invariant-loop-member
invariant-loop-member l = l.bytes.items ++ sets.set_bytes (sets.members l.rest) ≡ l.fn.bytes.items ++ sets.set_bytes (sets.members l.set)

abbrev pub decreases-loop-member : goal.decreases-loop-member
decreases-loop-member l = length l.rest

use Rattle.std.proofs.Common.{◌≡◌, ◌++◌, ◌+◌, length}
use Rattle.uc_mixed.specs.Sets as sets
use Rattle.uc_mixed.proofs.set.push_union.Given as goal

abbrev pub invariant-loop-x : goal.invariant-loop-x
invariant-loop-x l = l.bytes.items ++ sets.union_of l.left l.right ≡ l.fn.bytes.items ++ sets.union_of l.older l.newer

abbrev pub decreases-loop-x : goal.decreases-loop-x
decreases-loop-x l = length l.left + length l.right

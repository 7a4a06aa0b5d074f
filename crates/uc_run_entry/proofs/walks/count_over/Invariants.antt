use Rattle.std.proofs.Common.{◌-◌}
use Rattle.uc_run_entry.proofs.Trees.{Walks, HasCount}
use Rattle.uc_run_entry.proofs.walks.count_over.Given as goal

abbrev pub invariant-loop-node : goal.invariant-loop-node
invariant-loop-node l = Walks l.fragment l.fragments l.nodes l.node (HasCount l.fragment l.fragments l.nodes l.count)

abbrev pub decreases-loop-node : goal.decreases-loop-node
decreases-loop-node l = l.node.high - l.node.low

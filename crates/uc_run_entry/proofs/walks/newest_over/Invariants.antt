use Rattle.std.proofs.Common.{◌-◌}
use Rattle.uc_run_entry.proofs.Trees.{Walks, HasNewest}
use Rattle.uc_run_entry.proofs.walks.newest_over.Given as goal

abbrev pub invariant-loop-node : goal.invariant-loop-node
invariant-loop-node l = Walks l.fragment l.fragments l.nodes l.node (HasNewest l.fragment l.at l.fragments l.nodes l.best)

abbrev pub decreases-loop-node : goal.decreases-loop-node
decreases-loop-node l = l.node.high - l.node.low

use Rattle.std.proofs.Common.{◌-◌}
use Rattle.uc_run_entry.proofs.tree.+push_nodes.Given as goal

abbrev pub decreases-push_nodes : goal.decreases-push_nodes
decreases-push_nodes l = l.high - l.low

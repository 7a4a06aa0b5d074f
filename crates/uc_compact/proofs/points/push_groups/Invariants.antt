use Rattle.std.proofs.Common.{◌≡◌, length}
use Rattle.uc_run_entry.specs.Cutting.{fragments_of}
use Rattle.uc_compact.specs.Inputs.{ranges_of}
use Rattle.uc_compact.proofs.Pushing.{PushesOn}
use Rattle.uc_compact.proofs.points.push_groups.Given as goal

abbrev pub invariant-loop-lists : goal.invariant-loop-lists
invariant-loop-lists g l = (l.fronts ≡ l.fn.fronts) × PushesOn g.O.Operator.meaning l.keeping (fragments_of (ranges_of l.fn.fronts)) l.fn.kept l.fn.groups l.groups l.kept

abbrev pub decreases-loop-lists : goal.decreases-loop-lists
decreases-loop-lists g l = length l.groups

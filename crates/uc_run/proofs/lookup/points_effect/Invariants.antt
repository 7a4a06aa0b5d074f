use Rattle.std.proofs.Common.{◌≡◌, ◌≤◌, length, take}
use Rattle.uc_run_entry.specs.Lookup as lookup
use Rattle.uc_run.proofs.lookup.points_effect.Given as goal

-- the points that are left, onto the effect so far
abbrev pub invariant-loop-end : goal.invariant-loop-end
invariant-loop-end g l = record {
  within : l.end ≤ length l.points;
  left : lookup.points_effect g.O.Operator.meaning l.effect (take l.end l.points) ≡ lookup.points_effect g.O.Operator.meaning l.fn.before l.fn.points;
}

abbrev pub decreases-loop-end : goal.decreases-loop-end
decreases-loop-end g l = l.end

use Rattle.std.proofs.Common.{◌≡◌, take}
use Rattle.uc_run_entry.specs.Lookup as lookup
use Rattle.uc_run.proofs.lookup.few_effect.Given as goal

-- the points that are left, onto the effect so far
abbrev pub invariant-loop-place : goal.invariant-loop-place
invariant-loop-place g l = lookup.points_effect g.O.Operator.meaning l.effect (take l.place l.refs.items) ≡ lookup.points_effect g.O.Operator.meaning l.fn.before l.fn.points

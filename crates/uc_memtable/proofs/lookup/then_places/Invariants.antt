use Rattle.std.proofs.Common.{◌≡◌, drop}
use Rattle.uc_memtable.specs.Sights.{seen_by, effect_over}
use Rattle.uc_memtable.proofs.lookup.then_places.Given as goal

-- the oldest places are composed
abbrev pub invariant-loop-i : goal.invariant-loop-i
invariant-loop-i g l = l.effect ≡ effect_over g.O.Operator.meaning (seen_by l.sight) l.fn.before (drop l.i l.places)

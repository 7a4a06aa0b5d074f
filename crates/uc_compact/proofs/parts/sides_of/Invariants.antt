use Rattle.std.proofs.Common.{◌≡◌, map, filter, take}
use Rattle.uc_compact.specs.Cuts.{is_below, is_from}
use Rattle.uc_compact.proofs.parts.sides_of.Given as goal

pub record Parted (l : goal.Live-loop-points) : Type 0 where
  pub below : l.below.items ≡ map (filter (is_below l.key)) (take l.points-index l.runs)
  pub from : l.from.items ≡ map (filter (is_from l.key)) (take l.points-index l.runs)

abbrev pub invariant-loop-points : goal.invariant-loop-points
invariant-loop-points l = Parted l

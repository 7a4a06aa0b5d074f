use Rattle.std.proofs.Common.{◌≡◌, map, take}
use Rattle.uc_run_entry.specs.Cutting as cutting
use Rattle.uc_run_entry.proofs.cutting.cut_points.Given as goal

abbrev pub invariant-loop-range : goal.invariant-loop-range
invariant-loop-range l = map (λ cut. cut.now) l.cuts.keys ≡ cutting.cut_points (take l.range-index l.ranges)

use Rattle.std.proofs.Common.{◌≡◌, take}
use Rattle.uc_run.specs.Flush.{points_in}
use Rattle.uc_run.specs.Ranks.{points_of}
use Rattle.uc_run.proofs.ranks.numbers_of_points.Given as goal

abbrev pub invariant-loop-place : goal.invariant-loop-place
invariant-loop-place l = points_of l.slots l.bits l.numbers.items ≡ points_in (take l.place l.slots)

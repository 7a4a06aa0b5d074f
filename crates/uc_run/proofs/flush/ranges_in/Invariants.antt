use Rattle.std.proofs.Common.{◌≡◌, take}
use Rattle.uc_run.specs.Flush as flush
use Rattle.uc_run.proofs.flush.ranges_in.Given as goal

abbrev pub invariant-loop-place : goal.invariant-loop-place
invariant-loop-place l = l.ranges.items ≡ flush.ranges_in (take l.place l.slots)

use Rattle.std.proofs.Common.{◌↔◌, drop}
use Rattle.uc_batch.specs.Rising.{IsRising}
use Rattle.uc_batch.proofs.writes.is_rising.Given as goal

abbrev pub invariant-loop-write : goal.invariant-loop-write
invariant-loop-write l = IsRising l.last (drop l.write-index l.list) ↔ IsRising 0 l.list

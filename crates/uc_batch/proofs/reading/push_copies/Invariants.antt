use Rattle.std.proofs.Common.{◌≡◌, ◌++◌}
use Rattle.uc_batch.proofs.reading.push_copies.Given as goal

abbrev pub invariant-loop-write : goal.invariant-loop-write
invariant-loop-write l = l.list.items ≡ l.fn.list.items ++ l.yielded

use Rattle.std.proofs.Common.{◌≡◌, ◌≤◌, length}
use Rattle.uc_batch.specs.Rising.{last_of}
use Rattle.uc_c.specs.LogWrites.{writes_bytes}
use Rattle.uc_c.proofs.log_step.laid_writes.Given as goal

abbrev pub invariant-loop-write : goal.invariant-loop-write
invariant-loop-write l = record {
  so_far : l.bytes.items ≡ writes_bytes l.yielded;
  counted : l.count ≡ length l.yielded;
  few : l.count ≤ length l.bytes.items;
  used : l.last ≡ last_of l.fn.before l.yielded;
}

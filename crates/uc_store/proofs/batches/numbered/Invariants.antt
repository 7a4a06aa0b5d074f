use Rattle.std.proofs.Common.{◌≡◌, ◌+◌, length}
use Rattle.uc_batch.specs.Batch as batch
use Rattle.uc_store.proofs.batches.numbered.Given as goal

abbrev pub invariant-loop-op : goal.invariant-loop-op
invariant-loop-op l = record {
  so_far : l.writes.items ≡ batch.numbered l.fn.seq l.yielded;
  next : l.seq ≡ l.fn.seq + length l.yielded;
}

use Rattle.std.proofs.Common.{◌≡◌, Ok, length}
use Rattle.uc_batch.specs.Records.{operations}
use Rattle.uc_batch.specs.Batch.{ops_in}
use Rattle.uc_batch.proofs.batch_writes.next_op.Given as goal

abbrev pub invariant-loop-batch : goal.invariant-loop-batch
invariant-loop-batch l = record {
  fine : operations l.batch.total l.batch.rest.now ≡ Ok (ops_in l.batch.total l.batch.rest.now);
  ops : ops_in l.fn.batch.total l.fn.batch.rest.now ≡ ops_in l.batch.total l.batch.rest.now;
}

abbrev pub decreases-loop-batch : goal.decreases-loop-batch
decreases-loop-batch l = length l.batch.rest.now

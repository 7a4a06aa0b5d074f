use Rattle.std.proofs.Common.{◌≡◌, length}
use Rattle.uc_batch.proofs.Counted.{ReadsOn}
use Rattle.uc_batch.proofs.batch_writes.judge_records.Given as goal

abbrev pub invariant-loop-batch : goal.invariant-loop-batch
invariant-loop-batch l = record {
  same : l.batch.total ≡ l.fn.batch.total;
  so_far : ReadsOn l.fn.batch.total l.fn.batch.rest.now l.counted l.batch.rest.now;
}

abbrev pub decreases-loop-batch : goal.decreases-loop-batch
decreases-loop-batch l = length l.batch.rest.now

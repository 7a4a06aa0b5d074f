use Rattle.std.proofs.Common.{◌≡◌, ◌<◌, ◌+◌, ◌^◌, ◌++◌, List, length, ap, length-append, arith}
use Rattle.uc_bytes.specs.declared.write.Write.{Write}
use Rattle.uc_batch.specs.Log.{log_writes}
use Rattle.uc_batch.proofs.Joined.{joins}
use Rattle.uc_version_open.proofs.Counting.{few_with}
use Rattle.uc_version_open.proofs.recovery.count_writes.Goals as goal

-- src/recovery.rt:87:31
pub count_batch-count-requires : goal.count_batch-count-requires
count_batch-count-requires c =
    let l = c.loop-batches in
    let comes = rw c.in-Batch.is at c.in_ok-advance.ensures.ok in
    let writes = l.invariant.0 in
    let so_far = joins (log_writes c.args.log.now) l.batches c.advance.new.self writes l.invariant.1 comes in
    let few : length writes + length c.advance.new.self.batch < 2 ^ 56 = few_with writes c.advance.new.self.batch so_far.rising in
    let batch : length c.writes.result ≡ length c.advance.new.self.batch = ap (λ (ws : List Write). length ws) c.writes.ensures in
    omega (arith, l.invariant.2, few, batch)

-- src/recovery.rt:85:5
pub loop-batches-preserved : goal.loop-batches-preserved
loop-batches-preserved c =
    let l = c.loop-batches in
    let comes = rw c.in-Batch.is at c.in_ok-advance.ensures.ok in
    let writes = l.invariant.0 in
    let batch : length c.writes.result ≡ length c.advance.new.self.batch = ap (λ (ws : List Write). length ws) c.writes.ensures in (
      writes ++ c.advance.new.self.batch,
      joins (log_writes c.args.log.now) l.batches c.advance.new.self writes l.invariant.1 comes,
      omega (arith, l.invariant.2, c.count_batch-count.ensures, batch, length-append writes c.advance.new.self.batch),
    )

use Rattle.std.proofs.Common.{◌++◌, List, subst}
use Rattle.uc_bytes.specs.declared.write.Write.{Write}
use Rattle.uc_batch.specs.Log.{log_writes}
use Rattle.uc_batch.proofs.Joined.{joins}
use Rattle.uc_version_open.specs.Parting.{IsParted}
use Rattle.uc_version_open.proofs.recovery.recover_first.Goals as goal

-- src/recovery.rt:157:5
pub loop-batches-preserved : goal.loop-batches-preserved
loop-batches-preserved g c =
    let l = c.loop-batches in
    let comes = rw c.in-Batch.is at c.in_ok-advance.ensures.ok in
    let writes = l.invariant.0 in
    let new = c.part_batch.new.parted in
    let taken = c.in_ok-part_batch-in-Batch.ensures c.args.options c.args.most writes l.invariant.2 in (
      writes ++ c.advance.new.self.batch,
      joins (log_writes c.args.log.now) l.batches c.advance.new.self writes l.invariant.1 comes,
      subst (λ (batch : List Write). IsParted c.args.options c.args.most (writes ++ batch) new.opener new.left new.behind.items) c.writes.ensures taken,
    )

use Rattle.std.proofs.Common.{◌≡◌, ◌++◌, rules}
use Rattle.uc_batch.specs.Log.{log_writes}
use Rattle.uc_batch.proofs.Joined.{begins, joins}
use Rattle.uc_batch.proofs.log.copy_writes.Goals as goal

pub loop-log-init : goal.loop-log-init
loop-log-init c = rw c.new-writes.ensures.items (begins (log_writes c.args.bytes.now) c.new-log.result c.new-log.ensures.ahead c.new-log.ensures.last)

pub loop-log-preserved : goal.loop-log-preserved
loop-log-preserved c =
    let l = c.loop-log in
    let comes = rw c.in-Batch.is at c.in_ok-advance.ensures.ok in
    let added : c.push_copies.new.list.items ≡ l.writes.items ++ c.advance.new.self.batch = search rules in
    rw added (joins (log_writes c.args.bytes.now) l.log c.advance.new.self l.writes.items l.invariant comes)

use Rattle.uc_batch.proofs.Rises.{last_at}
use Rattle.uc_batch.proofs.writes.Writes.last.Goals as goal

pub returns-in-Some : goal.returns-in-Some
returns-in-Some c = last_at 0 c.args.self.now.list c.in-Some.write.now (rw c.list.ensures.list at c.in-Some.ensures.value)

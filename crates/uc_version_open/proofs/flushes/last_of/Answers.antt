use Rattle.uc_batch.proofs.Rises.{last_at}
use Rattle.uc_version_open.proofs.flushes.last_of.Goals as goal

pub returns-in-Some : goal.returns-in-Some
returns-in-Some c = last_at c.args.last c.args.writes.now c.in-Some.write.now c.in-Some.ensures.value

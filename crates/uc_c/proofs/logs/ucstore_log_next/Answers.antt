use Rattle.uc_c.proofs.Beginning.{begins}
use Rattle.uc_c.proofs.logs.ucstore_log_next.Goals as goal

pub returns-in-Ok-Batch-clause-begins : goal.returns-in-Ok-Batch-clause-begins
returns-in-Ok-Batch-clause-begins c = begins c.args.log.now c.args.place.now

pub returns-in-Ok-Ended-clause-begins : goal.returns-in-Ok-Ended-clause-begins
returns-in-Ok-Ended-clause-begins c = begins c.args.log.now c.args.place.now

pub returns-in-Err-clause-begins : goal.returns-in-Err-clause-begins
returns-in-Err-clause-begins c = begins c.args.log.now c.args.place.now

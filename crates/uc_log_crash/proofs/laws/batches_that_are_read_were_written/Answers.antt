use Rattle.std.proofs.Common.{◌++◌}
use Rattle.uc_log_crash.proofs.Shown.{were_written}
use Rattle.uc_log_crash.proofs.laws.batches_that_are_read_were_written.Goals as goal

pub returns-clause-walk : goal.returns-clause-walk
returns-clause-walk c = were_written

pub returns-clause-beginning : goal.returns-clause-beginning
returns-clause-beginning c = λ written shown synced before found end walk unforged reads.
    c.walk_begins_log.ensures written (before ++ found) end (were_written written shown synced before found end walk unforged reads)

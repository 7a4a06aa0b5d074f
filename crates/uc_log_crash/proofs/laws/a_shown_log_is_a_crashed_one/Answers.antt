use Rattle.uc_folder.specs.Device.{first_whole}
use Rattle.uc_log_crash.proofs.Folders.{is_a_crash}
use Rattle.uc_log_crash.proofs.laws.a_shown_log_is_a_crashed_one.Goals as goal

pub returns : goal.returns
returns c = λ f written shown synced found end are unforged reads.
    is_a_crash f written synced found end are (c.batches_that_are_read_were_written.ensures.beginning written shown synced (first_whole f.kept) found end are.kept unforged reads)

use Rattle.uc_folder.specs.Device.{crashed}
use Rattle.uc_run_folder.specs.Files.{crashed_files}
use Rattle.uc_run_folder.specs.RunWorlds.{run, start, list_read}
use Rattle.uc_run_folder.proofs.Histories.{Below, always, crash_reads, end_reads}
use Rattle.uc_run_folder.proofs.Keeping.{firm_crashed}
use Rattle.uc_run_folder.proofs.Finding.{next_is}
use Rattle.uc_run_folder.proofs.laws.an_opening_misses_no_run.Goals as goal

pub returns-clause-crashed : goal.returns-clause-crashed
returns-clause-crashed c = λ events logs bases runs listed is result found.
    let below : Below = record { crashed_is = c.a_crash_loses_nothing_acknowledged.ensures.readable; ended_is = c.a_process_that_ends_loses_nothing_answered.ensures.readable; reread_is = c.a_log_read_from_the_device_loses_nothing_acknowledged.ensures.readable } in
    let w = run events start in
    let holds = always below events in
    let f = crashed_files bases runs w.files in
    next_is f (firm_crashed w.folder.machine.base w.folder.device w.files w.rows logs bases runs holds.kept.firm).bounded listed is w.rows (list_read (crashed logs bases w.folder.device) f) (crash_reads w logs bases runs holds) result found

pub returns-clause-ended : goal.returns-clause-ended
returns-clause-ended c = λ events listed is result found.
    let below : Below = record { crashed_is = c.a_crash_loses_nothing_acknowledged.ensures.readable; ended_is = c.a_process_that_ends_loses_nothing_answered.ensures.readable; reread_is = c.a_log_read_from_the_device_loses_nothing_acknowledged.ensures.readable } in
    let w = run events start in
    let holds = always below events in
    next_is w.files holds.kept.firm.bounded listed is w.rows (list_read w.folder.device w.files) (end_reads w holds) result found

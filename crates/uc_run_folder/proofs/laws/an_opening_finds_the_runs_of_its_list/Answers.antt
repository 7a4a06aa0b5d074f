use Rattle.uc_run_folder.specs.RunWorlds.{run, start}
use Rattle.uc_run_folder.proofs.Histories.{Below, always, crash_reads, end_reads, reread_reads}
use Rattle.uc_run_folder.proofs.laws.an_opening_finds_the_runs_of_its_list.Goals as goal

pub returns-clause-crashed : goal.returns-clause-crashed
returns-clause-crashed c = λ events logs bases runs.
    let below : Below = record { crashed_is = c.a_crash_loses_nothing_acknowledged.ensures.readable; ended_is = c.a_process_that_ends_loses_nothing_answered.ensures.readable; reread_is = c.a_log_read_from_the_device_loses_nothing_acknowledged.ensures.readable } in
    crash_reads (run events start) logs bases runs (always below events)

pub returns-clause-ended : goal.returns-clause-ended
returns-clause-ended c = λ events.
    let below : Below = record { crashed_is = c.a_crash_loses_nothing_acknowledged.ensures.readable; ended_is = c.a_process_that_ends_loses_nothing_answered.ensures.readable; reread_is = c.a_log_read_from_the_device_loses_nothing_acknowledged.ensures.readable } in
    end_reads (run events start) (always below events)

pub returns-clause-reread : goal.returns-clause-reread
returns-clause-reread c = λ events left.
    let below : Below = record { crashed_is = c.a_crash_loses_nothing_acknowledged.ensures.readable; ended_is = c.a_process_that_ends_loses_nothing_answered.ensures.readable; reread_is = c.a_log_read_from_the_device_loses_nothing_acknowledged.ensures.readable } in
    reread_reads (run events start) left (always below events)

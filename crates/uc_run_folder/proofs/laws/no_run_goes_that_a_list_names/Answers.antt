use Rattle.uc_run_folder.specs.RunWorlds.{run, start}
use Rattle.uc_run_folder.proofs.Histories.{Below, always}
use Rattle.uc_run_folder.proofs.Naming.{crash_keeps, end_keeps}
use Rattle.uc_run_folder.proofs.laws.no_run_goes_that_a_list_names.Goals as goal

pub returns-clause-crashed : goal.returns-clause-crashed
returns-clause-crashed c = λ events r logs bases runs e.
    let below : Below = record { crashed_is = c.a_crash_loses_nothing_acknowledged.ensures.readable; ended_is = c.a_process_that_ends_loses_nothing_answered.ensures.readable; reread_is = c.a_log_read_from_the_device_loses_nothing_acknowledged.ensures.readable } in
    crash_keeps (run events start) (always below events) r e logs bases runs

pub returns-clause-ended : goal.returns-clause-ended
returns-clause-ended c = λ events r e.
    let below : Below = record { crashed_is = c.a_crash_loses_nothing_acknowledged.ensures.readable; ended_is = c.a_process_that_ends_loses_nothing_answered.ensures.readable; reread_is = c.a_log_read_from_the_device_loses_nothing_acknowledged.ensures.readable } in
    end_keeps (run events start) (always below events) r e

use Rattle.uc_run_folder.specs.RunWorlds.{run, start}
use Rattle.uc_run_folder.proofs.Histories.{Below, always}
use Rattle.uc_run_folder.proofs.Naming.{written_now, written_crashed, written_unnamed}
use Rattle.uc_run_folder.proofs.laws.no_number_is_used_again.Goals as goal

pub returns-clause-now : goal.returns-clause-now
returns-clause-now c = λ events r e.
    let below : Below = record { crashed_is = c.a_crash_loses_nothing_acknowledged.ensures.readable; ended_is = c.a_process_that_ends_loses_nothing_answered.ensures.readable; reread_is = c.a_log_read_from_the_device_loses_nothing_acknowledged.ensures.readable } in
    written_now (run events start) (always below events) r e

pub returns-clause-crashed : goal.returns-clause-crashed
returns-clause-crashed c = λ events r keep e.
    let below : Below = record { crashed_is = c.a_crash_loses_nothing_acknowledged.ensures.readable; ended_is = c.a_process_that_ends_loses_nothing_answered.ensures.readable; reread_is = c.a_log_read_from_the_device_loses_nothing_acknowledged.ensures.readable } in
    written_crashed (run events start) (always below events) r keep e

pub returns-clause-unnamed : goal.returns-clause-unnamed
returns-clause-unnamed c = λ events r logs bases runs e.
    let below : Below = record { crashed_is = c.a_crash_loses_nothing_acknowledged.ensures.readable; ended_is = c.a_process_that_ends_loses_nothing_answered.ensures.readable; reread_is = c.a_log_read_from_the_device_loses_nothing_acknowledged.ensures.readable } in
    written_unnamed (run events start) (always below events) r e logs bases runs

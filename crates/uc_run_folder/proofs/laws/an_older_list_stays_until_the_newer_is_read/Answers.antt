use Rattle.uc_run_folder.specs.RunWorlds.{run, start}
use Rattle.uc_run_folder.proofs.Histories.{Below, always}
use Rattle.uc_run_folder.proofs.Naming.{older_crashed, older_now, calm_removes, unread_removes}
use Rattle.uc_run_folder.proofs.laws.an_older_list_stays_until_the_newer_is_read.Goals as goal

pub returns-clause-crashed : goal.returns-clause-crashed
returns-clause-crashed c = λ events bases runs.
    let below : Below = record { crashed_is = c.a_crash_loses_nothing_acknowledged.ensures.readable; ended_is = c.a_process_that_ends_loses_nothing_answered.ensures.readable; reread_is = c.a_log_read_from_the_device_loses_nothing_acknowledged.ensures.readable } in
    older_crashed (run events start) (always below events) bases runs

pub returns-clause-now : goal.returns-clause-now
returns-clause-now c = λ events.
    let below : Below = record { crashed_is = c.a_crash_loses_nothing_acknowledged.ensures.readable; ended_is = c.a_process_that_ends_loses_nothing_answered.ensures.readable; reread_is = c.a_log_read_from_the_device_loses_nothing_acknowledged.ensures.readable } in
    older_now (run events start) (always below events)

pub returns-clause-checkpointer : goal.returns-clause-checkpointer
returns-clause-checkpointer c = λ events e.
    let below : Below = record { crashed_is = c.a_crash_loses_nothing_acknowledged.ensures.readable; ended_is = c.a_process_that_ends_loses_nothing_answered.ensures.readable; reread_is = c.a_log_read_from_the_device_loses_nothing_acknowledged.ensures.readable } in
    calm_removes (run events start) (always below events) e

pub returns-clause-runs : goal.returns-clause-runs
returns-clause-runs c = λ events r e. unread_removes (run events start) r e

use Rattle.std.specs.Prelude.{Some}
use Rattle.uc_folder.specs.Device.{crashed}
use Rattle.uc_folder.specs.Worlds.{run, start}
use Rattle.uc_folder.proofs.Histories.{restart_kept, crash_kept}
use Rattle.uc_folder.proofs.Giving.{acked_is, opens_done, crash_done}
use Rattle.uc_folder.proofs.laws.batches_that_are_given_up_are_gone.Goals as goal

pub returns-clause-kept : goal.returns-clause-kept
returns-clause-kept c = λ events least top keep sealed. restart_kept events least top sealed (Some keep)

pub returns-clause-kept_after_a_crash : goal.returns-clause-kept_after_a_crash
returns-clause-kept_after_a_crash c = λ events logs bases least top keep sealed. crash_kept events logs bases least top sealed (Some keep)

pub returns-clause-acknowledged : goal.returns-clause-acknowledged
returns-clause-acknowledged c = λ events logs bases least top keep sealed. acked_is (record (run events start) { device = crashed logs bases (run events start).device }) least top keep sealed

pub returns-clause-done : goal.returns-clause-done
returns-clause-done c = λ events least top sealed keep outcomes there ready. opens_done (run events start) least top sealed keep outcomes there ready

pub returns-clause-done_after_a_crash : goal.returns-clause-done_after_a_crash
returns-clause-done_after_a_crash c = λ events logs bases least top sealed keep outcomes there ready.
    opens_done (record (run events start) { device = crashed logs bases (run events start).device }) least top sealed keep outcomes there ready

pub returns-clause-stays : goal.returns-clause-stays
returns-clause-stays c = λ events kept logs bases is. crash_done events kept logs bases is

use Rattle.std.proofs.Common.{◌++◌, sym, subst}
use Rattle.uc_folder.specs.Device.{crashed, recovered}
use Rattle.uc_folder.specs.Worlds.{World, IsPrefixOf, first_of, run, start}
use Rattle.uc_folder.proofs.Lists.{prefix_trans}
use Rattle.uc_folder.proofs.Histories.{always_next, always_keeps, run_acked, run_more, crash_acked}
use Rattle.uc_folder.proofs.Saying.{always_says}
use Rattle.uc_folder.proofs.laws.always_loses_nothing.Goals as goal

pub returns-clause-said : goal.returns-clause-said
returns-clause-said c = λ events. always_says events

pub returns-clause-kept : goal.returns-clause-kept
returns-clause-kept c = λ events later logs bases all.
    let w = run events start in
    let v = run (events ++ later) start in
    let stays : IsPrefixOf w.acked v.acked = subst (λ (x : World). IsPrefixOf w.acked x.acked) (sym (run_more events later start)) (run_acked later w all (always_next events) (always_keeps events)) in
    prefix_trans (first_of w.parts w.machine.log w.machine.synced) w.acked (recovered (crashed logs bases v.device)) (always_says events)
    (prefix_trans w.acked v.acked (recovered (crashed logs bases v.device)) stays (crash_acked (events ++ later) logs bases))

use Rattle.std.proofs.Common.{◌≡◌, ℕ, true, List, ◌∷◌, ◌++◌, refl, sym, subst}
use Rattle.uc_folder.specs.declared.phases.Writer.{Writer}
use Rattle.uc_folder.specs.Device.{Keep, crashed, recovered}
use Rattle.uc_folder.specs.Steps.{is_open, syncing}
use Rattle.uc_folder.specs.Worlds.{World, Event, AskSync, Syncs, Done, IsPrefixOf, answered, are_beside, all_keep, happens, run, start}
use Rattle.uc_folder.proofs.Lists.{prefix_refl, prefix_trans}
use Rattle.uc_folder.proofs.Next.{next_happens}
use Rattle.uc_folder.proofs.Histories.{happens_keeps, always_next, always_keeps, run_acked, run_more, crash_acked}
use Rattle.uc_folder.proofs.Saying.{IsUnderWay, sync_covers}
use Rattle.uc_folder.proofs.laws.every_ms_loses_only_what_came_after_a_sync.Goals as goal

-- a sync that was asked for, with what happened beside it, and after it was told as done
covers : (events beside later : List Event) (logs bases : ℕ → Keep) → are_beside beside ≡ true → all_keep later ≡ true → is_open (run (events ++ AskSync ∷ beside) start).machine.writer ≡ true →
    IsUnderWay (run events start).machine.count (answered (run events start)) (run events start).parts (run events start).machine.log (syncing (run events start).machine.writer (run events start).machine.count) →
    IsPrefixOf (answered (run events start)) (recovered (crashed logs bases (run ((events ++ AskSync ∷ beside) ++ Syncs Done ∷ later) start).device))
covers events beside later logs bases are kept open' is =
    let w = run events start in
    let es = events ++ AskSync ∷ beside in
    let all = es ++ Syncs Done ∷ later in
    let split : run es start ≡ run beside (happens w AskSync) = run_more events (AskSync ∷ beside) start in
    let told : IsPrefixOf (answered w) (happens (run es start) (Syncs Done)).acked =
    subst (λ (x : World). IsPrefixOf (answered w) (happens x (Syncs Done)).acked) (sym split)
    (sync_covers w.machine.count (answered w) beside (happens w AskSync) are (subst (λ (x : World). is_open x.machine.writer ≡ true) split open') is) in
    let rest : run all start ≡ run later (happens (run es start) (Syncs Done)) = run_more es (Syncs Done ∷ later) start in
    let done : World = happens (run es start) (Syncs Done) in
    let stays : IsPrefixOf done.acked (run all start).acked =
    subst (λ (x : World). IsPrefixOf done.acked x.acked) (sym rest) (run_acked later done kept (next_happens (run es start) (Syncs Done) (always_keeps es) (always_next es)) (happens_keeps (run es start) (Syncs Done) (always_next es) (always_keeps es))) in
    prefix_trans (answered w) done.acked (recovered (crashed logs bases (run all start).device)) told
    (prefix_trans done.acked (run all start).acked (recovered (crashed logs bases (run all start).device)) stays (crash_acked all logs bases))

pub returns-clause-ready : goal.returns-clause-ready
returns-clause-ready c = λ events beside later logs bases ready are kept open'.
    let w = run events start in
    covers events beside later logs bases are kept open'
    (subst (λ (x : Writer). IsUnderWay w.machine.count (answered w) w.parts w.machine.log (syncing x w.machine.count)) (sym ready) (refl, prefix_refl (answered w)))

pub returns-clause-appending : goal.returns-clause-appending
returns-clause-appending c = λ events beside later logs bases ready are kept open'.
    let w = run events start in
    covers events beside later logs bases are kept open'
    (subst (λ (x : Writer). IsUnderWay w.machine.count (answered w) w.parts w.machine.log (syncing x w.machine.count)) (sym ready) (refl, prefix_refl (answered w)))

-- The machine of a world goes where its methods take it.
use Rattle.std.proofs.Common.{◌≡◌, ℕ, Bool, true, false, refl, ap, List}
use Rattle.std.specs.Prelude.{min, length}
use Rattle.uc_folder.specs.Device.{Batch}
use Rattle.uc_folder.specs.Steps.{may_begin, checkpointing}
use Rattle.uc_folder.specs.Worlds.{Outcome, Done, NotDone, PartDone, DoneUntold, is_done}
use Rattle.uc_run_folder.specs.declared.phases.Phase.{Phase}
use Rattle.uc_run_folder.specs.declared.phases.Phase.TheVariants.{Between, WritingRun, SyncingRun, NamingRuns, Listing, ReadingBack}
use Rattle.uc_run_folder.specs.declared.run_folder.RunFolder.{RunFolder}
use Rattle.uc_run_folder.specs.Steps.{told_checkpoint, listing_in, may_write, asking}
use Rattle.uc_run_folder.specs.RunWorlds.{RunWorld, Checkpointing, AskList, asks, happens, machine_of}

-- the machine once its list was requested, of a number of batches
abbrev requested : RunWorld → ℕ → ℕ → ℕ → RunFolder
requested w n past most = record {
  folder = record w.folder.machine { checkpointer = checkpointing w.folder.machine.checkpointer (may_begin w.folder.machine n most) n most };
  phase = listing_in (checkpointing w.folder.machine.checkpointer (may_begin w.folder.machine n most) n most);
  next = w.next;
  is_read = w.is_read;
}

pub is_told : (w : RunWorld) (p : Phase) (o : Outcome) (rows : List Batch) → ((n past : ℕ) → p ≡ NamingRuns n past → min past (length (w.folder.parts n)) ≡ past) →
    machine_of (happens (record w { phase = p }) (Checkpointing o rows)) ≡ told_checkpoint (machine_of (record w { phase = p })) (is_done o)
is_told w (NamingRuns n past) Done rows same = ap (requested w n past) (same n past refl)
is_told w Between Done rows same = refl
is_told w Between NotDone rows same = refl
is_told w Between PartDone rows same = refl
is_told w Between DoneUntold rows same = refl
is_told w (WritingRun n past r last) Done rows same = refl
is_told w (WritingRun n past r last) NotDone rows same = refl
is_told w (WritingRun n past r last) PartDone rows same = refl
is_told w (WritingRun n past r last) DoneUntold rows same = refl
is_told w (SyncingRun n past r last) Done rows same = refl
is_told w (SyncingRun n past r last) NotDone rows same = refl
is_told w (SyncingRun n past r last) PartDone rows same = refl
is_told w (SyncingRun n past r last) DoneUntold rows same = refl
is_told w (NamingRuns n past) NotDone rows same = refl
is_told w (NamingRuns n past) PartDone rows same = refl
is_told w (NamingRuns n past) DoneUntold rows same = refl
is_told w Listing Done rows same = refl
is_told w Listing NotDone rows same = refl
is_told w Listing PartDone rows same = refl
is_told w Listing DoneUntold rows same = refl
is_told w ReadingBack Done rows same = refl
is_told w ReadingBack NotDone rows same = refl
is_told w ReadingBack PartDone rows same = refl
is_told w ReadingBack DoneUntold rows same = refl

pub is_asked : (w : RunWorld) (n past count : ℕ) (kept : List ℕ) →
    machine_of (happens w (AskList n past kept count)) ≡ asking (machine_of w) (may_write (machine_of w) n past kept w.named count) n past count
is_asked w n past count kept = by_test (may_write (machine_of w) n past kept w.named count)
  where
    by_test : (b : Bool) → machine_of (asks b n past kept count w) ≡ asking (machine_of w) b n past count
    by_test true = refl
    by_test false = refl

-- Checkpoints and operations in numbers.
use Rattle.std.specs.Prelude.{ℕ, Option, Some, None, ◌==◌, if◌then◌else◌}
use Rattle.uc_folder.specs.declared.machine.Machine.{Machine}
use Rattle.uc_folder.specs.declared.state.Step.{Step}
use Rattle.uc_folder.specs.States.{step_of}
use Rattle.uc_run_folder.specs.declared.phases.Phase.{Phase}
use Rattle.uc_run_folder.specs.declared.phases.Phase.TheVariants.{Between, WritingRun, SyncingRun, NamingRuns, Listing, ReadingBack}
use Rattle.uc_run_folder.specs.declared.run_action.RunAction.{RunAction}
use Rattle.uc_run_folder.specs.declared.run_action.RunAction.TheVariants.{Wait, WriteRun, SyncRun, NameRuns, OfFolder, ReadBack, RemoveRun}
use Rattle.uc_run_folder.specs.declared.run_folder.RunFolder.{RunFolder}
use Rattle.uc_run_folder.specs.declared.run_state.RunState.{RunState}

abbrev pub phase_of : ℕ → ℕ → ℕ → ℕ → ℕ → Option Phase
phase_of code n past r last =
    if code == 0 then Some Between else (if code == 1 then Some (WritingRun n past r last) else (if code == 2 then Some (SyncingRun n past r last) else
    (if code == 3 then Some (NamingRuns n past) else (if code == 4 then Some Listing else (if code == 5 then Some ReadingBack else None)))))

-- the numbers of a phase: its code, and its fields
abbrev pub state_with : Phase → RunFolder → RunState
state_with Between m = record { next = m.next; number = 0; past = 0; run = 0; last = 0; phase = 0; is_read = m.is_read }
state_with (WritingRun n past r last) m = record { next = m.next; number = n; past = past; run = r; last = last; phase = 1; is_read = m.is_read }
state_with (SyncingRun n past r last) m = record { next = m.next; number = n; past = past; run = r; last = last; phase = 2; is_read = m.is_read }
state_with (NamingRuns n past) m = record { next = m.next; number = n; past = past; run = 0; last = 0; phase = 3; is_read = m.is_read }
state_with Listing m = record { next = m.next; number = 0; past = 0; run = 0; last = 0; phase = 4; is_read = m.is_read }
state_with ReadingBack m = record { next = m.next; number = 0; past = 0; run = 0; last = 0; phase = 5; is_read = m.is_read }

-- the numbers of a machine beside those of its folder
abbrev pub run_state_of : RunFolder → RunState
run_state_of m = state_with m.phase m

abbrev pub with_phase : RunState → Machine → Option Phase → Option RunFolder
with_phase s m (Some p) = Some (record { folder = m; phase = p; next = s.next; is_read = s.is_read })
with_phase s m None = None

-- the machine with these numbers, if there is one
abbrev pub run_folder_of : RunState → Machine → Option RunFolder
run_folder_of s m = with_phase s m (phase_of s.phase s.number s.past s.run s.last)

-- the numbers of an operation: those of the folder, and more kinds after these
abbrev pub run_step_of : RunAction → Step
run_step_of Wait = record { number = 0; count = 0; kind = 0 }
run_step_of (WriteRun r) = record { number = r; count = 0; kind = 15 }
run_step_of (SyncRun r) = record { number = r; count = 0; kind = 16 }
run_step_of NameRuns = record { number = 0; count = 0; kind = 5 }
run_step_of (OfFolder a) = step_of a
run_step_of ReadBack = record { number = 0; count = 0; kind = 17 }
run_step_of (RemoveRun r) = record { number = r; count = 0; kind = 18 }

-- Machines and operations in numbers.
use Rattle.std.specs.Prelude.{ℕ, Bool, false, Option, Some, None, nat_lt, ◌==◌, ◌^◌, ◌&&◌, if◌then◌else◌}
use Rattle.uc_folder.specs.declared.machine.Machine.{Machine}
use Rattle.uc_folder.specs.declared.phases.Writer.{Writer}
use Rattle.uc_folder.specs.declared.phases.Writer.TheVariants.{Making, Founding, Naming, Clearing, SettingAside, Copying, SealingCopy, Replacing, Settling, Ready, Appending, Mending, Syncing, Both, Spoiled, Closing, Failed}
use Rattle.uc_folder.specs.declared.phases.NextLog.{NextLog}
use Rattle.uc_folder.specs.declared.phases.NextLog.TheVariants.{Absent, Creating, Recording, Waiting}
use Rattle.uc_folder.specs.declared.phases.Checkpointer.{Checkpointer}
use Rattle.uc_folder.specs.declared.phases.Checkpointer.TheVariants.{Idle, Writing, Sealing, Renaming, Fixing, RemovingLog, RemovingBase}
use Rattle.uc_folder.specs.declared.action.Action.{Action}
use Rattle.uc_folder.specs.declared.action.Action.TheVariants.{Nothing, CreateLog, Append, SyncLog, CutLog, SyncNames, SetAside, CopyLog, SyncCopy, NameCopy, WriteBase, SyncBase, NameBase, RemoveLog, RemoveBase}
use Rattle.uc_folder.specs.declared.state.State.{State}
use Rattle.uc_folder.specs.declared.state.Step.{Step}

-- the number of a phase of the writer, and its fields
abbrev pub writer_code : Writer → ℕ
writer_code Making = 0
writer_code Founding = 1
writer_code (Naming top sealed) = 2
writer_code (Clearing k top sealed) = 3
writer_code SettingAside = 4
writer_code Copying = 5
writer_code SealingCopy = 6
writer_code Replacing = 7
writer_code Settling = 8
writer_code Ready = 9
writer_code Appending = 10
writer_code Mending = 11
writer_code (Syncing n) = 12
writer_code (Both n) = 13
writer_code (Spoiled n) = 14
writer_code Closing = 15
writer_code Failed = 16

abbrev pub writer_at : Writer → ℕ
writer_at (Clearing k top sealed) = k
writer_at (Syncing n) = n
writer_at (Both n) = n
writer_at (Spoiled n) = n
writer_at w = 0

abbrev pub writer_top : Writer → ℕ
writer_top (Naming top sealed) = top
writer_top (Clearing k top sealed) = top
writer_top w = 0

abbrev pub writer_sealed : Writer → Bool
writer_sealed (Naming top sealed) = sealed
writer_sealed (Clearing k top sealed) = sealed
writer_sealed w = false

abbrev pub writer_of : ℕ → ℕ → ℕ → Bool → Option Writer
writer_of code at top sealed =
    if code == 0 then Some Making else (if code == 1 then Some Founding else (if code == 2 then Some (Naming top sealed) else (if code == 3 then Some (Clearing at top sealed) else
    (if code == 4 then Some SettingAside else (if code == 5 then Some Copying else (if code == 6 then Some SealingCopy else (if code == 7 then Some Replacing else
    (if code == 8 then Some Settling else (if code == 9 then Some Ready else (if code == 10 then Some Appending else (if code == 11 then Some Mending else
    (if code == 12 then Some (Syncing at) else (if code == 13 then Some (Both at) else (if code == 14 then Some (Spoiled at) else (if code == 15 then Some Closing else
    (if code == 16 then Some Failed else None))))))))))))))))

-- the state of the next log
abbrev pub next_code : NextLog → ℕ
next_code Absent = 0
next_code Creating = 1
next_code Recording = 2
next_code Waiting = 3

abbrev pub next_of : ℕ → Option NextLog
next_of code = if code == 0 then Some Absent else (if code == 1 then Some Creating else (if code == 2 then Some Recording else (if code == 3 then Some Waiting else None)))

-- the number of a phase of the checkpointer, and its fields
abbrev pub checkpointer_code : Checkpointer → ℕ
checkpointer_code Idle = 0
checkpointer_code (Writing n part) = 1
checkpointer_code (Sealing n part) = 2
checkpointer_code (Renaming n part) = 3
checkpointer_code (Fixing n part) = 4
checkpointer_code (RemovingLog n) = 5
checkpointer_code (RemovingBase n) = 6

abbrev pub checkpointer_number : Checkpointer → ℕ
checkpointer_number Idle = 0
checkpointer_number (Writing n part) = n
checkpointer_number (Sealing n part) = n
checkpointer_number (Renaming n part) = n
checkpointer_number (Fixing n part) = n
checkpointer_number (RemovingLog n) = n
checkpointer_number (RemovingBase n) = n

abbrev pub checkpointer_part : Checkpointer → ℕ
checkpointer_part (Writing n part) = part
checkpointer_part (Sealing n part) = part
checkpointer_part (Renaming n part) = part
checkpointer_part (Fixing n part) = part
checkpointer_part c = 0

abbrev pub checkpointer_of : ℕ → ℕ → ℕ → Option Checkpointer
checkpointer_of code n part =
    if code == 0 then Some Idle else (if code == 1 then Some (Writing n part) else (if code == 2 then Some (Sealing n part) else (if code == 3 then Some (Renaming n part) else
    (if code == 4 then Some (Fixing n part) else (if code == 5 then Some (RemovingLog n) else (if code == 6 then Some (RemovingBase n) else None))))))

-- the numbers of a machine
abbrev pub state_of : Machine → State
state_of m = record {
  log = m.log;
  count = m.count;
  synced = m.synced;
  base = m.base;
  least = m.least;
  tried = m.tried;
  past = m.past;
  at = writer_at m.writer;
  top = writer_top m.writer;
  number = checkpointer_number m.checkpointer;
  part = checkpointer_part m.checkpointer;
  writer = writer_code m.writer;
  next = next_code m.next;
  checkpointer = checkpointer_code m.checkpointer;
  is_sealed = writer_sealed m.writer;
}

abbrev pub with_phases : State → Option Writer → Option NextLog → Option Checkpointer → Option Machine
with_phases s (Some w) (Some n) (Some c) = Some (record {
  log = s.log;
  count = s.count;
  synced = s.synced;
  base = s.base;
  least = s.least;
  tried = s.tried;
  past = s.past;
  writer = w;
  next = n;
  checkpointer = c;
})
with_phases s w n c = None

-- the machine with these numbers, if there is one, and the numbers that grow are below 2^63
abbrev pub machine_of : State → Option Machine
machine_of s =
    if nat_lt s.log (2 ^ 63) && nat_lt s.count (2 ^ 63)
    then with_phases s (writer_of s.writer s.at s.top s.is_sealed) (next_of s.next) (checkpointer_of s.checkpointer s.number s.part)
    else None

-- the numbers of an operation: those of its variants in their order
abbrev pub step_of : Action → Step
step_of Nothing = record { number = 0; count = 0; kind = 0 }
step_of (CreateLog n) = record { number = n; count = 0; kind = 1 }
step_of (Append n mark) = record { number = n; count = mark; kind = 2 }
step_of (SyncLog n count) = record { number = n; count = count; kind = 3 }
step_of (CutLog n count) = record { number = n; count = count; kind = 4 }
step_of SyncNames = record { number = 0; count = 0; kind = 5 }
step_of (SetAside n) = record { number = n; count = 0; kind = 6 }
step_of (CopyLog n count) = record { number = n; count = count; kind = 7 }
step_of SyncCopy = record { number = 0; count = 0; kind = 8 }
step_of (NameCopy n) = record { number = n; count = 0; kind = 9 }
step_of (WriteBase n past) = record { number = n; count = past; kind = 10 }
step_of SyncBase = record { number = 0; count = 0; kind = 11 }
step_of (NameBase n past) = record { number = n; count = past; kind = 12 }
step_of (RemoveLog n) = record { number = n; count = 0; kind = 13 }
step_of (RemoveBase n) = record { number = n; count = 0; kind = 14 }

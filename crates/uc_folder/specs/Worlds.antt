-- The machine and the device together, for every list of events.
use Rattle.std.specs.Prelude.{not, take, min, max, length, ◌≡◌, ℕ, ◌+◌, ◌≤◌, ◌<◌, Bool, true, false, ◌&&◌, ◌||◌, List, [], ◌∷◌, ◌++◌, Option, Some, None, nat_lt, if◌then◌else◌}
use Rattle.uc_folder.specs.Device.{Batch, Whole, Torn, File, Device, Keep, first_number, crashed, crashed_file, empty_file, appended, synced, cut, suspected, sealed, copied, rows_of, at, change_log, name_log, name_base, sync_names, write_copy, write_partial, records_of, content, are_whole, are_damaged, is_there, past_of, newest_base, last_log, upto, half_cut, are_none, is_cut}
use Rattle.uc_folder.specs.declared.machine.Machine.{Machine}
use Rattle.uc_folder.specs.declared.listing.Found.{Found}
use Rattle.uc_folder.specs.declared.phases.Writer.{Writer}
use Rattle.uc_folder.specs.declared.phases.Writer.TheVariants.{Settling, Ready, Mending, Syncing, Both, Spoiled, Closing}
use Rattle.uc_folder.specs.declared.action.Action.{Action}
use Rattle.uc_folder.specs.declared.action.Action.TheVariants.{Nothing, CreateLog, Append, SyncLog, CutLog, SyncNames, SetAside, CopyLog, SyncCopy, NameCopy, WriteBase, SyncBase, NameBase, RemoveLog, RemoveBase}
use Rattle.uc_folder.specs.Steps.{next_write, told_write, next_make, told_make, next_sync, told_sync, next_checkpoint, told_checkpoint, submitting, syncing, asking_next, switching, may_begin, checkpointing, opened}

-- The directory and its machine; the batches that were submitted for each log, the one that was submitted last, and all that were
-- acknowledged as synced.
pub record World : Type 0 where
  pub device : Device
  pub machine : Machine
  pub parts : ℕ → List Batch
  pub batch : Batch
  pub acked : List Batch

abbrev pub submitted : World → List Batch
submitted w = upto w.parts w.machine.log ++ w.parts w.machine.log

-- the batches of older logs, followed by the first ones of the present log
abbrev pub first_of : (ℕ → List Batch) → ℕ → ℕ → List Batch
first_of parts log n = upto parts log ++ take n (parts log)

-- the batches whose appends were acknowledged
abbrev pub answered : World → List Batch
answered w = first_of w.parts w.machine.log w.machine.count

-- ---- an operation

-- The outcome of an operation. One that failed may have done nothing, a part, or all.
pub data Outcome : Type 0 where
  Done : Outcome
  NotDone : Outcome
  PartDone : Outcome
  DoneUntold : Outcome

abbrev pub is_done : Outcome → Bool
is_done Done = true
is_done _ = false

-- the directory after an operation
abbrev pub carried_out : Batch → (ℕ → List Batch) → Device → Action → Device
carried_out batch parts d Nothing = d
carried_out batch parts d (CreateLog k) = name_log k (Some empty_file) d
carried_out batch parts d (Append k mark) = change_log k (appended (Whole batch mark)) d
carried_out batch parts d (SyncLog k n) = change_log k (synced n) d
carried_out batch parts d (CutLog k n) = change_log k (cut n) d
carried_out batch parts d SyncNames = sync_names d
carried_out batch parts d (SetAside k) = d
carried_out batch parts d (CopyLog k n) = write_copy (copied n (d.logs k).now) d
carried_out batch parts d SyncCopy = write_copy (sealed d.copy) d
carried_out batch parts d (NameCopy k) = name_log k (Some d.copy) d
carried_out batch parts d (WriteBase n past) = write_partial (record { kept = []; waiting = rows_of (first_of parts n past); lost = []; suspect = false; past = past }) d
carried_out batch parts d SyncBase = write_partial (sealed d.partial) d
carried_out batch parts d (NameBase n past) = name_base n (Some d.partial) d
carried_out batch parts d (RemoveLog k) = name_log k None d
carried_out batch parts d (RemoveBase k) = name_base k None d

-- An operation that was done in part, or failed. A record may be torn. A sync of a log leaves it suspect. A crash
-- may keep a part of any other sync anyway, and a file with a temporary name isn't read.
abbrev pub begun : Device → Action → Device
begun d (Append k mark) = change_log k (appended Torn) d
begun d (SyncLog k n) = change_log k suspected d
begun d (CutLog k n) = change_log k suspected d
begun d _ = d

abbrev pub failed : Device → Action → Device
failed d (SyncLog k n) = change_log k suspected d
failed d (CutLog k n) = change_log k suspected d
failed d _ = d

-- an operation that failed, though it was done; of a cut only the sync failed
abbrev pub untold : Batch → (ℕ → List Batch) → Device → Action → Device
untold batch parts d (CutLog k n) = change_log k (half_cut n) d
untold batch parts d a = failed (carried_out batch parts d a) a

abbrev pub device_after : Outcome → Batch → (ℕ → List Batch) → Device → Action → Device
device_after Done batch parts d a = carried_out batch parts d a
device_after NotDone batch parts d a = failed d a
device_after PartDone batch parts d a = begun d a
device_after DoneUntold batch parts d a = untold batch parts d a

-- ---- events

-- Each operation takes effect at one point in time. The writer and the checkpointer run concurrently, so a sync of names that
-- succeeds covers the names that existed when it began, and it is in the list there; one that fails is in the list where it ends.

pub data Event : Type 0 where
  -- a batch is submitted
  Submit : Batch → Event
  -- a sync of all that was appended is requested
  AskSync : Event
  -- the next log is requested
  AskNext : Event
  -- a switch to it is requested
  AskSwitch : Event
  -- a base is requested, made of the logs before a number, and of some batches of the log of that number
  AskCheckpoint : ℕ → ℕ → Event
  -- the writer's next operation is executed
  Writes : Outcome → Event
  -- the next log is created, or its name is synced
  Makes : Outcome → Event
  -- the requested sync of the log ends: it takes effect here, on the records that had been appended when it was requested
  Syncs : Outcome → Event
  -- the checkpointer's next operation is executed
  Checkpoints : Outcome → Event
  -- The machine crashes, and the directory is opened again: the listing has the least number, and the greatest of a log. The
  -- current log may be called sealed. And some of its batches may be given up: then as many are kept as given.
  Crash : (ℕ → Keep) → (ℕ → Keep) → ℕ → ℕ → Bool → Option ℕ → Event
  -- the process ends, and the directory is opened again as it can be read
  Restart : ℕ → ℕ → Bool → Option ℕ → Event
  -- the same, where only the durable part of the current log can be read
  Reread : Keep → ℕ → ℕ → Bool → Option ℕ → Event
  -- an opening syncs the names, and nothing else: it fails
  SyncsNames : Event

-- a batch is taken if the writer may append one
abbrev pub parts_with : Writer → ℕ → Batch → (ℕ → List Batch) → ℕ → List Batch
parts_with Ready log b parts = at log (parts log ++ b ∷ []) parts
parts_with (Syncing n) log b parts = at log (parts log ++ b ∷ []) parts
parts_with w log b parts = parts

abbrev pub batch_with : Writer → Batch → Batch → Batch
batch_with Ready b old = b
batch_with (Syncing n) b old = b
batch_with w b old = old

-- A batch that was cut off isn't submitted any more: it failed. Nor are those that were given up, once that is done. And nothing
-- was submitted for the log that is entered.
abbrev pub parts_after : Writer → Bool → ℕ → ℕ → (ℕ → List Batch) → ℕ → List Batch
parts_after Mending true log count parts = at log (take count (parts log)) parts
parts_after Settling true log count parts = at log (take count (parts log)) parts
parts_after Closing true log count parts = at (log + 1) [] parts
parts_after w done log count parts = parts

-- the batches acknowledged as synced after an operation of the writer: all, once the log is durable
abbrev pub acked_after : Writer → Bool → List Batch → List Batch → List Batch
acked_after Settling true all acked = all
acked_after Closing true all acked = all
acked_after w done all acked = acked

-- and after a sync
abbrev pub acked_then : Writer → Bool → (ℕ → List Batch) → ℕ → List Batch → List Batch
acked_then (Syncing n) true parts log acked = first_of parts log n
acked_then (Both n) true parts log acked = first_of parts log n
acked_then (Spoiled n) true parts log acked = first_of parts log n
acked_then w done parts log acked = acked

-- the result of opening by the names that are listed
abbrev pub found : Device → ℕ → ℕ → Found
found d least top = record {
  base = newest_base d;
  past = past_of (d.bases (newest_base d)).now;
  least = least;
  log = last_log d;
  is_there = is_there (d.logs (last_log d)).now;
  top = top;
}

-- Whether nothing of a log waits for a sync, or is lost. The premise: only such a log is called sealed. A closed log ends with a batch
-- without operations, whose mark says that all before it was durable: marks are true (uc_log_crash, `AreTrue`).
abbrev pub is_settled : Option File → Bool
is_settled None = false
is_settled (Some f) = are_whole f.kept && (are_none f.waiting && (are_none f.lost && not f.suspect))

-- The number of batches that are kept of the current log: all, or as many as given, and at least those that a base has.
abbrev pub kept_of : Option ℕ → ℕ → ℕ → ℕ
kept_of None past count = count
kept_of (Some keep) past count = min (max past keep) count

abbrev pub keeps_all : Option ℕ → Bool
keeps_all None = true
keeps_all (Some keep) = false

-- batches that are given up are acknowledged no longer
abbrev pub acked_of : Option ℕ → List Batch → List Batch → List Batch
acked_of None kept acked = acked
acked_of (Some keep) kept acked = take (length kept) acked

-- The names that opening read are durable before anything else is done: the machine asks for that first, and the event is in the list
-- where it succeeds. If it fails, nothing was opened, though the names may be durable. In a directory without a log it isn't asked for.
abbrev pub names_read : Option File → Device → Device
names_read None d = d
names_read (Some f) d = sync_names d

abbrev pub begun_by : Option File → Machine → Machine
begun_by None m = m
begun_by (Some f) m = told_write m true

-- The batches of each log: those that were read. Of a log of which records are lost, others may come back: they stay submitted until
-- the log is renewed.
abbrev pub parts_read : Device → (ℕ → List Batch) → ℕ → List Batch
parts_read d parts k = if nat_lt k (newest_base d) || is_cut (d.logs k).now then parts k else content (d.logs k).now

-- the number of batches that are kept of the current log
abbrev pub count_read : Device → Option ℕ → ℕ
count_read d keep = kept_of keep (past_of (d.bases (last_log d)).now) (length (content (d.logs (last_log d)).now))

-- the directory is opened: from then on the batches that were read and kept count
abbrev pub opens : ℕ → ℕ → Bool → Option ℕ → World → World
opens least top sealed keep w = record {
  device = names_read (w.device.logs (last_log w.device)).now w.device;
  machine = begun_by (w.device.logs (last_log w.device)).now
      (opened (found w.device least top) (count_read w.device keep) (sealed && (is_settled (w.device.logs (last_log w.device)).now && keeps_all keep)));
  parts = parts_read w.device w.parts;
  batch = w.batch;
  acked = acked_of keep (first_of (parts_read w.device w.parts) (last_log w.device) (count_read w.device keep)) w.acked;
}

-- the directory, where only this part of the current log is durable
abbrev pub reread : Keep → World → Device
reread keep w = change_log w.machine.log (crashed_file keep) w.device

abbrev pub happens : World → Event → World
happens w (Submit b) = record w {
  machine = record w.machine { writer = submitting w.machine.writer };
  parts = parts_with w.machine.writer w.machine.log b w.parts;
  batch = batch_with w.machine.writer b w.batch;
}
happens w AskSync = record w { machine = record w.machine { writer = syncing w.machine.writer w.machine.count } }
happens w AskNext = record w { machine = record w.machine { next = asking_next w.machine.writer w.machine.next } }
happens w AskSwitch = record w { machine = record w.machine { writer = switching w.machine.writer w.machine.next } }
happens w (AskCheckpoint n past) = record w {
  machine = record w.machine {
    checkpointer = checkpointing w.machine.checkpointer (may_begin w.machine n (min past (length (w.parts n)))) n (min past (length (w.parts n)));
  };
}
happens w (Writes outcome) = record {
  device = device_after outcome w.batch w.parts w.device (next_write w.machine.writer w.machine.log w.machine.count w.machine.synced);
  machine = told_write w.machine (is_done outcome);
  parts = parts_after w.machine.writer (is_done outcome) w.machine.log w.machine.count w.parts;
  batch = w.batch;
  acked = acked_after w.machine.writer (is_done outcome) (first_of w.parts w.machine.log w.machine.count) w.acked;
}
happens w (Makes outcome) = record w {
  device = device_after outcome w.batch w.parts w.device (next_make w.machine.next w.machine.log);
  machine = told_make w.machine (is_done outcome);
}
happens w (Syncs outcome) = record w {
  device = device_after outcome w.batch w.parts w.device (next_sync w.machine.writer w.machine.log);
  machine = told_sync w.machine (is_done outcome);
  acked = acked_then w.machine.writer (is_done outcome) w.parts w.machine.log w.acked;
}
happens w (Checkpoints outcome) = record w {
  device = device_after outcome w.batch w.parts w.device (next_checkpoint w.machine.checkpointer);
  machine = told_checkpoint w.machine (is_done outcome);
}
happens w (Crash logs bases least top sealed keep) = opens least top sealed keep (record w { device = crashed logs bases w.device })
happens w (Restart least top sealed keep) = opens least top sealed keep w
happens w SyncsNames = record w { device = sync_names w.device }
happens w (Reread left least top sealed keep) = opens least top sealed keep (record w { device = reread left w })

-- an empty directory, which is opened
abbrev pub new_device : Device
new_device = record { logs = λ k. record { now = None; before = [] }; bases = λ k. record { now = None; before = [] }; copy = empty_file; partial = empty_file; names = first_number }

abbrev pub start : World
start = record { device = new_device; machine = opened (found new_device first_number first_number) 0 false; parts = λ k. []; batch = []; acked = [] }

-- events, one after the other
abbrev pub run : List Event → World → World
run [] w = w
run (e ∷ es) w = run es (happens w e)

-- ---- laws

abbrev pub IsPrefixOf : List Batch → List Batch → Type 0
IsPrefixOf xs ys = (rest : List Batch) × (xs ++ rest ≡ ys)

-- whether a name stands for a file without a torn record
abbrev pub is_intact : Option File → Bool
is_intact None = false
is_intact (Some f) = are_whole (f.kept ++ f.waiting)

-- An opening succeeds: the base and the logs from its number on are there, all but the last one whole, and no log is damaged.
pub record IsReadable (d : Device) : Type 0 where
  pub base : first_number < newest_base d → is_intact (d.bases (newest_base d)).now ≡ true
  pub logs : (k : ℕ) → newest_base d ≤ k → k < last_log d → is_intact (d.logs k).now ≡ true
  pub last : first_number < last_log d → is_there (d.logs (last_log d)).now ≡ true
  pub whole : (k : ℕ) → are_damaged (records_of (d.logs k).now) ≡ false

-- an event that may happen during a sync of the log: neither that ends nor the process
abbrev pub is_beside : Event → Bool
is_beside (Syncs o) = false
is_beside (Crash logs bases least top sealed keep) = false
is_beside (Restart least top sealed keep) = false
is_beside (Reread left least top sealed keep) = false
is_beside SyncsNames = false
is_beside e = true

abbrev pub are_beside : List Event → Bool
are_beside [] = true
are_beside (e ∷ es) = is_beside e && are_beside es

-- an event that gives no batch up
abbrev pub keeps_batches : Event → Bool
keeps_batches (Crash logs bases least top sealed keep) = keeps_all keep
keeps_batches (Restart least top sealed keep) = keeps_all keep
keeps_batches (Reread left least top sealed keep) = keeps_all keep
keeps_batches e = true

abbrev pub all_keep : List Event → Bool
all_keep [] = true
all_keep (e ∷ es) = keeps_batches e && all_keep es

-- only these batches are submitted, and all are acknowledged
abbrev pub IsDone : List Batch → World → Type 0
IsDone xs w = (submitted w ≡ xs) × (w.acked ≡ xs)

-- the writer's operations alone
abbrev pub writes : List Outcome → List Event
writes [] = []
writes (o ∷ os) = Writes o ∷ writes os

-- One course: three batches in two logs, all synced, and a base that has the first log and one batch of the second. The first log is
-- removed.
abbrev pub base_within_a_log : Batch → Batch → Batch → List Event
base_within_a_log a b c =
    Writes Done ∷ Writes Done ∷
    Submit a ∷ AskNext ∷ Makes Done ∷ Writes Done ∷ Makes Done ∷ AskSwitch ∷ Writes Done ∷
    Submit b ∷ Writes Done ∷ AskSync ∷ Submit c ∷ Writes Done ∷ Syncs Done ∷
    AskNext ∷ Makes Done ∷ Makes Done ∷ AskSwitch ∷ Writes Done ∷
    AskCheckpoint 2 1 ∷ Checkpoints Done ∷ Checkpoints Done ∷ Checkpoints Done ∷ Checkpoints Done ∷ Checkpoints Done ∷ Checkpoints Done ∷ []

-- Another one: two batches in two logs, and the directory is opened twice. First all batches of the second log are given up, and then
-- that is removed.
abbrev pub batch_given_up : Batch → Batch → List Event
batch_given_up a b =
    Writes Done ∷ Writes Done ∷
    Submit a ∷ AskNext ∷ Makes Done ∷ Writes Done ∷ Makes Done ∷ AskSwitch ∷ Writes Done ∷
    Submit b ∷ Writes Done ∷ AskSync ∷ Syncs Done ∷
    Restart 1 2 false (Some 0) ∷ Writes Done ∷ Writes Done ∷ Writes Done ∷ Writes Done ∷ Writes Done ∷
    Restart 1 2 false None ∷ Writes Done ∷ []

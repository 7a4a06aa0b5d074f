-- The machine and the device together, for every list of events.
use Rattle.std.specs.Prelude.{ℕ, zero, suc, ◌+◌, Bool, true, false, List, [], ◌∷◌, ◌++◌, Option, Some, None, if◌then◌else◌}
use Rattle.uc_folder.specs.Device.{Batch, File, Device, Keep, first_number, crashed, at, newest_base, last_log}
use Rattle.uc_folder.specs.Steps.{next_write, next_make, next_sync}
use Rattle.uc_folder.specs.Steps as folder
use Rattle.uc_folder.specs.declared.action.Action.{Action}
use Rattle.uc_folder.specs.declared.action.Action.TheVariants.{Nothing, SyncNames}
use Rattle.uc_folder.specs.declared.phases.Checkpointer.{Checkpointer}
use Rattle.uc_folder.specs.declared.phases.Checkpointer.TheVariants.{Fixing}
use Rattle.uc_folder.specs.Worlds as inner
use Rattle.uc_folder.specs.Worlds.{World, Submit, AskNext, AskSwitch, Outcome, Done, NotDone, PartDone, DoneUntold, is_done, Event, AskCheckpoint, Writes, Makes, Syncs, Checkpoints, Crash, Restart, Reread, SyncsNames, reread}
use Rattle.uc_run_folder.specs.declared.phases.Phase.{Phase}
use Rattle.uc_run_folder.specs.declared.phases.Phase.TheVariants.{Between, WritingRun, SyncingRun, NamingRuns, Listing, ReadingBack}
use Rattle.uc_run_folder.specs.declared.run_folder.RunFolder.{RunFolder}
use Rattle.uc_run_folder.specs.Steps.{phase_after, read_after, begun, may_write, may_remove}
use Rattle.uc_run_folder.specs.Files.{Files, runs_of, next_in, crashed_files, sync_files, files_after, write_run, sync_run, name_runs, remove_run}

-- The logs of a directory, with the machine of `uc_folder`, and its lists and run files; the rest of the machine. And what is said of
-- them: the runs that the newest list names, those of the list before it until the newest one is read back, those of the list in
-- progress, and the rows that were written to each run.
pub record RunWorld : Type 0 where
  pub folder : World
  pub files : Files
  pub phase : Phase
  pub next : ℕ
  pub is_read : Bool
  pub named : List ℕ
  pub older : List ℕ
  pub draft : List ℕ
  pub rows : ℕ → List Batch

abbrev pub machine_of : RunWorld → RunFolder
machine_of w = record { folder = w.folder.machine; phase = w.phase; next = w.next; is_read = w.is_read }

-- the runs that are named by the list which an opening reads
abbrev pub list_read : Device → Files → List ℕ
list_read d f = runs_of (f.lists (newest_base d)).now

-- ---- events

pub data RunEvent : Type 0 where
  -- an event of the folder beside its checkpointer
  Beside : Event → RunEvent
  -- A list is requested, made of the logs before a number and of some batches of the log of that number, with these runs of the newest
  -- list and a number of new ones.
  AskList : ℕ → ℕ → List ℕ → ℕ → RunEvent
  -- the checkpointer's next operation is executed; a run that it writes has these rows
  Checkpointing : Outcome → List Batch → RunEvent
  -- a run is removed, if it may be
  Removes : Outcome → ℕ → RunEvent
  -- The machine crashes, and the directory is opened again. The choices for logs, lists and runs come first.
  Crashes : (ℕ → Keep) → (ℕ → Keep) → (ℕ → Keep) → ℕ → ℕ → Bool → Option ℕ → RunEvent
  -- the process ends, and the directory is opened again
  Ends : ℕ → ℕ → Bool → Option ℕ → RunEvent
  -- the same, where only the durable part of the current log can be read
  Rereads : Keep → ℕ → ℕ → Bool → Option ℕ → RunEvent

-- the operation of an event of the folder, and its outcome
abbrev pub action_of : World → Event → Action
action_of w (Writes o) = next_write w.machine.writer w.machine.log w.machine.count w.machine.synced
action_of w (Makes o) = next_make w.machine.next w.machine.log
action_of w (Syncs o) = next_sync w.machine.writer w.machine.log
action_of w (Checkpoints o) = folder.next_checkpoint w.machine.checkpointer
action_of w SyncsNames = SyncNames
action_of w _ = Nothing

abbrev pub outcome_of : Event → Outcome
outcome_of (Writes o) = o
outcome_of (Makes o) = o
outcome_of (Syncs o) = o
outcome_of (Checkpoints o) = o
outcome_of _ = Done

-- an event of the folder happens: its operation is executed on lists and names of runs, too
abbrev pub folder_does : Event → RunWorld → RunWorld
folder_does e w = record w { folder = inner.happens w.folder e; files = files_after (outcome_of e) w.draft (action_of w.folder e) w.files }

-- whether an event of the folder is none of its checkpointer, and no opening
abbrev pub is_aside : Event → Bool
is_aside (AskCheckpoint n past) = false
is_aside (Checkpoints o) = false
is_aside (Crash logs bases least top sealed keep) = false
is_aside (Restart least top sealed keep) = false
is_aside (Reread left least top sealed keep) = false
is_aside _ = true

-- ---- a checkpoint

-- numbers from one on
abbrev pub numbers : ℕ → ℕ → List ℕ
numbers r zero = []
numbers r (suc n) = r ∷ numbers (suc r) n

abbrev pub asks : Bool → ℕ → ℕ → List ℕ → ℕ → RunWorld → RunWorld
asks true n past kept count w = record w { phase = begun n past w.next count; next = w.next + count; draft = kept ++ numbers w.next count }
asks false n past kept count w = w

-- The events that the folder's machine sees of an operation. A list is requested of it once the names of its runs are durable. If a
-- list can't be read back, the removal of what it makes obsolete is given up.
abbrev pub seen_by : Phase → Outcome → List Event
seen_by Between o = Checkpoints o ∷ []
seen_by Listing o = Checkpoints o ∷ []
seen_by (NamingRuns n past) Done = SyncsNames ∷ AskCheckpoint n past ∷ []
seen_by (NamingRuns n past) DoneUntold = SyncsNames ∷ []
seen_by ReadingBack NotDone = Checkpoints NotDone ∷ []
seen_by ReadingBack PartDone = Checkpoints NotDone ∷ []
seen_by ReadingBack DoneUntold = Checkpoints NotDone ∷ []
seen_by _ _ = []

abbrev pub files_by : Phase → Outcome → List Batch → RunWorld → Files
files_by Between o rows w = files_after o w.draft (folder.next_checkpoint w.folder.machine.checkpointer) w.files
files_by (WritingRun n past r last) o rows w = write_run o r rows w.files
files_by (SyncingRun n past r last) o rows w = sync_run o r w.files
files_by (NamingRuns n past) o rows w = name_runs o w.files
files_by Listing o rows w = files_after o w.draft (folder.next_checkpoint w.folder.machine.checkpointer) w.files
files_by ReadingBack o rows w = w.files

abbrev pub rows_by : Phase → List Batch → (ℕ → List Batch) → ℕ → List Batch
rows_by (WritingRun n past r last) new rows = at r new rows
rows_by _ new rows = rows

-- once its name is durable, a list is the newest one
abbrev pub named_by : Phase → Checkpointer → Bool → List ℕ → List ℕ → List ℕ
named_by Listing (Fixing n past) true new old = new
named_by _ _ _ new old = old

abbrev pub older_by : Phase → Checkpointer → Bool → List ℕ → List ℕ → List ℕ
older_by Listing (Fixing n past) true old older = old
older_by ReadingBack c true old older = []
older_by _ _ _ old older = older

abbrev pub checkpointed : Outcome → List Batch → World → RunWorld → RunWorld
checkpointed o rows after w = record w {
  folder = after;
  files = files_by w.phase o rows w;
  phase = phase_after w.phase w.folder.machine.checkpointer after.machine.checkpointer (is_done o);
  is_read = read_after w.phase w.folder.machine.checkpointer (is_done o) w.is_read;
  named = named_by w.phase w.folder.machine.checkpointer (is_done o) w.draft w.named;
  older = older_by w.phase w.folder.machine.checkpointer (is_done o) w.named w.older;
  rows = rows_by w.phase rows w.rows;
}

-- ---- an opening

-- The names that opening read are durable before anything else is done.
abbrev pub files_read : Option File → Files → Files
files_read None f = f
files_read (Some log) f = sync_files f

-- The directory is opened: the newest list and its runs are read. So that list counts as read back.
abbrev pub opens : Event → Device → Files → RunWorld → RunWorld
opens e d f w = record w {
  folder = inner.happens w.folder e;
  files = files_read (d.logs (last_log d)).now f;
  phase = Between;
  next = next_in f;
  is_read = true;
  named = list_read d f;
  older = [];
  draft = [];
}

-- ---- lists of events

abbrev pub happens : RunWorld → RunEvent → RunWorld
happens w (Beside e) = if is_aside e then folder_does e w else w
happens w (AskList n past kept count) = asks (may_write (machine_of w) n past kept w.named count) n past kept count w
happens w (Checkpointing o rows) = checkpointed o rows (inner.run (seen_by w.phase o) w.folder) w
happens w (Removes o r) = if may_remove (machine_of w) r w.named then record w { files = remove_run o r w.files } else w
happens w (Crashes logs bases runs least top sealed keep) = opens (Crash logs bases least top sealed keep) (crashed logs bases w.folder.device) (crashed_files bases runs w.files) w
happens w (Ends least top sealed keep) = opens (Restart least top sealed keep) w.folder.device w.files w
happens w (Rereads left least top sealed keep) = opens (Reread left least top sealed keep) (reread left w.folder) w.files w

abbrev pub run : List RunEvent → RunWorld → RunWorld
run [] w = w
run (e ∷ es) w = run es (happens w e)

-- an empty directory, which is opened
abbrev pub start : RunWorld
start = record {
  folder = inner.start;
  files = record { lists = λ k. record { now = None; before = [] }; partial = []; runs = λ r. record { now = None; before = [] }; bound = 0 };
  phase = Between;
  next = first_number;
  is_read = true;
  named = [];
  older = [];
  draft = [];
  rows = λ r. [];
}

-- the events of the folder that its machine sees
abbrev pub seen : RunWorld → RunEvent → List Event
seen w (Beside e) = if is_aside e then e ∷ [] else []
seen w (Checkpointing o rows) = seen_by w.phase o
seen w (Crashes logs bases runs least top sealed keep) = Crash logs bases least top sealed keep ∷ []
seen w (Ends least top sealed keep) = Restart least top sealed keep ∷ []
seen w (Rereads left least top sealed keep) = Reread left least top sealed keep ∷ []
seen w _ = []

abbrev pub all_seen : List RunEvent → RunWorld → List Event
all_seen [] w = []
all_seen (e ∷ es) w = seen w e ++ all_seen es (happens w e)

-- ---- one course

abbrev pub aside : List Event → List RunEvent
aside [] = []
aside (e ∷ es) = Beside e ∷ aside es

-- a number of operations of the checkpointer, which succeed
abbrev pub succeeding : ℕ → Batch → List RunEvent
succeeding zero b = []
succeeding (suc n) b = Checkpointing Done (b ∷ []) ∷ succeeding n b

-- a batch is appended to the log, and the next log is entered
abbrev pub one_log : Batch → List RunEvent
one_log b = aside (Submit b ∷ AskNext ∷ Makes Done ∷ Writes Done ∷ Makes Done ∷ AskSwitch ∷ Writes Done ∷ [])

-- Two checkpoints of two logs. The first list has the runs 1 and 2, the second one the runs 2 and 3. Run 1 is removed.
abbrev pub two_checkpoints : Batch → Batch → List RunEvent
two_checkpoints a b =
    aside (Writes Done ∷ Writes Done ∷ []) ++ (one_log a ++ (AskList 2 0 [] 2 ∷ succeeding 12 a) ++ (one_log b ++ (AskList 3 0 (2 ∷ []) 1 ∷ succeeding 10 b) ++ (Removes Done 1 ∷ [])))

-- The state machine: the next operation, and the state after it succeeds or fails.
use Rattle.std.specs.Prelude.{ℕ, ◌+◌, Bool, true, false, nat_lt, nat_le, ◌==◌, ◌&&◌, ◌||◌, if◌then◌else◌}
use Rattle.uc_folder.specs.declared.machine.Machine.{Machine}
use Rattle.uc_folder.specs.declared.listing.Found.{Found}
use Rattle.uc_folder.specs.declared.phases.Writer.{Writer}
use Rattle.uc_folder.specs.declared.phases.Writer.TheVariants.{Making, Founding, Naming, Clearing, SettingAside, Copying, SealingCopy, Replacing, Settling, Ready, Appending, Mending, Syncing, Both, Spoiled, Closing, Failed}
use Rattle.uc_folder.specs.declared.phases.NextLog.{NextLog}
use Rattle.uc_folder.specs.declared.phases.NextLog.TheVariants.{Absent, Creating, Recording, Waiting}
use Rattle.uc_folder.specs.declared.phases.Checkpointer.{Checkpointer}
use Rattle.uc_folder.specs.declared.phases.Checkpointer.TheVariants.{Idle, Writing, Sealing, Renaming, Fixing, RemovingLog, RemovingBase}
use Rattle.uc_folder.specs.declared.action.Action.{Action}
use Rattle.uc_folder.specs.declared.action.Action.TheVariants.{Nothing, CreateLog, Append, SyncLog, CutLog, SyncNames, SetAside, CopyLog, SyncCopy, NameCopy, WriteBase, SyncBase, NameBase, RemoveLog, RemoveBase}

-- ---- the writer

abbrev pub next_write : Writer → ℕ → ℕ → ℕ → Action
next_write Making log count synced = CreateLog log
next_write Founding log count synced = SyncNames
next_write (Naming top sealed) log count synced = SyncNames
next_write (Clearing k top sealed) log count synced = RemoveLog k
next_write SettingAside log count synced = SetAside log
next_write Copying log count synced = CopyLog log count
next_write SealingCopy log count synced = SyncCopy
next_write Replacing log count synced = NameCopy log
next_write Settling log count synced = SyncNames
next_write Ready log count synced = Nothing
next_write Appending log count synced = Append log synced
next_write Mending log count synced = CutLog log count
next_write (Syncing n) log count synced = Nothing
next_write (Both n) log count synced = Append log synced
next_write (Spoiled n) log count synced = Nothing
next_write Closing log count synced = SyncLog log count
next_write Failed log count synced = Nothing

-- After the name of a log was removed, or none was. A sealed log is durable as it is: its batches aren't copied.
abbrev pub clearing_after : ℕ → ℕ → Bool → Writer
clearing_after k top sealed = if nat_lt k top then Clearing (k + 1) top sealed else (if sealed then Settling else SettingAside)

-- The writer's phase after an operation that succeeded, or failed. It continues after only one failure: that a batch can't be
-- appended, if the rest of it can be cut off.
abbrev pub writer_after : Writer → Bool → ℕ → Writer
writer_after Making true log = Founding
writer_after Founding true log = Ready
writer_after (Naming top sealed) true log = clearing_after log top sealed
writer_after (Clearing k top sealed) true log = clearing_after k top sealed
writer_after SettingAside true log = Copying
writer_after Copying true log = SealingCopy
writer_after SealingCopy true log = Replacing
writer_after Replacing true log = Settling
writer_after Settling true log = Ready
writer_after Ready is_done log = Ready
writer_after Appending true log = Ready
writer_after Appending false log = Mending
writer_after Mending true log = Ready
writer_after (Syncing n) is_done log = Syncing n
writer_after (Both n) true log = Syncing n
writer_after (Both n) false log = Spoiled n
writer_after (Spoiled n) is_done log = Spoiled n
writer_after Closing true log = Ready
writer_after _ _ log = Failed

-- the number of its log in that phase
abbrev pub log_after : Writer → Bool → ℕ → ℕ
log_after Closing true log = log + 1
log_after _ _ log = log

-- the number of batches that were appended to it
abbrev pub count_after : Writer → Bool → ℕ → ℕ
count_after Appending true count = count + 1
count_after (Both n) true count = count + 1
count_after Closing true count = 0
count_after _ _ count = count

-- the number of them that are durable
abbrev pub synced_after : Writer → Bool → ℕ → ℕ → ℕ
synced_after Settling true count synced = count
synced_after Closing true count synced = 0
synced_after _ _ count synced = synced

-- the next log in that phase
abbrev pub next_after : Writer → Bool → NextLog → NextLog
next_after Closing true next = Absent
next_after _ _ next = next

-- the removal of logs and bases before a base, from a number on
abbrev pub removing_from : ℕ → ℕ → Checkpointer
removing_from k base = if nat_lt k base then RemovingLog k else Idle

-- once the names that were read are durable, the files that the newest base makes obsolete are removed
abbrev pub checkpointer_then : Writer → Bool → ℕ → ℕ → Checkpointer → Checkpointer
checkpointer_then (Naming top sealed) true least base c = removing_from least base
checkpointer_then _ _ least base c = c

abbrev pub told_write : Machine → Bool → Machine
told_write m is_done = record m {
  log = log_after m.writer is_done m.log;
  count = count_after m.writer is_done m.count;
  synced = synced_after m.writer is_done m.count m.synced;
  writer = writer_after m.writer is_done m.log;
  next = next_after m.writer is_done m.next;
  checkpointer = checkpointer_then m.writer is_done m.least m.base m.checkpointer;
}

-- ---- the next log, which is created while batches are appended

abbrev pub next_make : NextLog → ℕ → Action
next_make Creating log = CreateLog (log + 1)
next_make Recording log = SyncNames
next_make _ log = Nothing

abbrev pub made_after : NextLog → Bool → NextLog
made_after Creating true = Recording
made_after Recording true = Waiting
made_after Waiting is_done = Waiting
made_after _ is_done = Absent

abbrev pub told_make : Machine → Bool → Machine
told_make m is_done = record m { next = made_after m.next is_done }

-- ---- a sync of the log, during which a batch may be appended

abbrev pub next_sync : Writer → ℕ → Action
next_sync (Syncing n) log = SyncLog log n
next_sync (Both n) log = SyncLog log n
next_sync (Spoiled n) log = SyncLog log n
next_sync _ log = Nothing

abbrev pub writer_synced : Writer → Bool → Writer
writer_synced (Syncing n) true = Ready
writer_synced (Both n) true = Appending
writer_synced (Spoiled n) true = Mending
writer_synced (Syncing n) false = Failed
writer_synced (Both n) false = Failed
writer_synced (Spoiled n) false = Failed
writer_synced w is_done = w

abbrev pub synced_then : Writer → Bool → ℕ → ℕ
synced_then (Syncing n) true synced = n
synced_then (Both n) true synced = n
synced_then (Spoiled n) true synced = n
synced_then w is_done synced = synced

abbrev pub told_sync : Machine → Bool → Machine
told_sync m is_done = record m {
  synced = synced_then m.writer is_done m.synced;
  writer = writer_synced m.writer is_done;
}

-- ---- the checkpointer

abbrev pub next_checkpoint : Checkpointer → Action
next_checkpoint Idle = Nothing
next_checkpoint (Writing n past) = WriteBase n past
next_checkpoint (Sealing n past) = SyncBase
next_checkpoint (Renaming n past) = NameBase n past
next_checkpoint (Fixing n past) = SyncNames
next_checkpoint (RemovingLog k) = RemoveLog k
next_checkpoint (RemovingBase k) = RemoveBase k

abbrev pub removing_after : ℕ → ℕ → Checkpointer
removing_after k base = if nat_lt k base then removing_from (k + 1) base else Idle

abbrev pub checkpointer_after : Checkpointer → Bool → ℕ → ℕ → Checkpointer
checkpointer_after (Writing n past) true least base = Sealing n past
checkpointer_after (Sealing n past) true least base = Renaming n past
checkpointer_after (Renaming n past) true least base = Fixing n past
checkpointer_after (Fixing n past) true least base = removing_from least n
checkpointer_after (RemovingLog k) true least base = RemovingBase k
checkpointer_after (RemovingBase k) true least base = removing_after k base
checkpointer_after _ _ least base = Idle

-- the number of the newest base whose name is durable
abbrev pub base_after : Checkpointer → Bool → ℕ → ℕ
base_after (Fixing n past) true base = n
base_after _ _ base = base

-- Logs and bases of numbers below this one are gone.
abbrev pub least_after : Checkpointer → Bool → ℕ → ℕ → ℕ
least_after (RemovingBase k) true least base = if nat_lt k base then k + 1 else least
least_after _ _ least base = least

-- the newest base that may have its name: its number, and the number of batches of the log of that number that it has
abbrev pub tried_after : Checkpointer → ℕ → ℕ
tried_after (Renaming n past) tried = n
tried_after _ tried = tried

abbrev pub past_after : Checkpointer → ℕ → ℕ
past_after (Renaming n past) old = past
past_after _ old = old

abbrev pub told_checkpoint : Machine → Bool → Machine
told_checkpoint m is_done = record m {
  base = base_after m.checkpointer is_done m.base;
  least = least_after m.checkpointer is_done m.least m.base;
  tried = tried_after m.checkpointer m.tried;
  past = past_after m.checkpointer m.past;
  checkpointer = checkpointer_after m.checkpointer is_done m.least m.base;
}

-- ---- requests

-- a batch is submitted
abbrev pub submitting : Writer → Writer
submitting Ready = Appending
submitting (Syncing n) = Both n
submitting w = w

-- a sync of all that was appended is requested
abbrev pub syncing : Writer → ℕ → Writer
syncing Ready count = Syncing count
syncing Appending count = Both count
syncing w count = w

-- the switch to the next log, once it exists
abbrev pub switching : Writer → NextLog → Writer
switching Ready Waiting = Closing
switching w next = w

-- whether batches may be submitted
abbrev pub is_open : Writer → Bool
is_open Ready = true
is_open Appending = true
is_open (Syncing n) = true
is_open (Both n) = true
is_open w = false

-- the next log is requested
abbrev pub asking_next : Writer → NextLog → NextLog
asking_next w Absent = if is_open w then Creating else Absent
asking_next w next = next

-- whether no base has as much
abbrev pub is_later : ℕ → ℕ → ℕ → ℕ → Bool
is_later tried past n new = nat_lt tried n || (tried == n && nat_lt past new)

-- whether the contents of a base are durable: all of them are in logs before the present one
abbrev pub is_in_older : ℕ → ℕ → ℕ → Bool
is_in_older log n new = nat_lt n log || (n == log && new == 0)

-- A base is requested, made of the logs before a number, and of the first batches of the log of that number. It takes no batch of
-- the present log: the writer switches to the next log before.
abbrev pub may_begin : Machine → ℕ → ℕ → Bool
may_begin m n new = is_open m.writer && is_later m.tried m.past n new && nat_le m.base n && is_in_older m.log n new

abbrev pub checkpointing : Checkpointer → Bool → ℕ → ℕ → Checkpointer
checkpointing Idle true n new = Writing n new
checkpointing c may n new = c

-- ---- an opening

-- the machine of the files that opening found, and of the number of batches that are kept of the current log, which may be sealed
abbrev pub opened : Found → ℕ → Bool → Machine
opened f count sealed = record {
  log = f.log;
  count = count;
  synced = 0;
  base = f.base;
  least = f.least;
  tried = f.base;
  past = f.past;
  writer = if f.is_there then Naming f.top sealed else Making;
  next = Absent;
  checkpointer = Idle;
}

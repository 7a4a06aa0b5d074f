-- The state machine: the next operation, and the state after it succeeds or fails.
use Rattle.std.specs.Prelude.{ℕ, ◌+◌, ◌-◌, ◌^◌, Bool, true, false, not, List, [], ◌∷◌, nat_lt, ◌==◌, ◌&&◌, ◌||◌, if◌then◌else◌}
use Rattle.std.specs.List.{list_any, list_all}
use Rattle.uc_folder.specs.declared.machine.Machine.{Machine}
use Rattle.uc_folder.specs.declared.phases.Checkpointer.{Checkpointer}
use Rattle.uc_folder.specs.declared.phases.Checkpointer.TheVariants.{Idle, Writing, Sealing, Renaming, Fixing}
use Rattle.uc_folder.specs.declared.action.Action.TheVariants.{RemoveLog, RemoveBase}
use Rattle.uc_folder.specs.Steps as folder
use Rattle.uc_folder.specs.Steps.{is_open, is_in_older}
use Rattle.uc_run_folder.specs.declared.phases.Phase.{Phase}
use Rattle.uc_run_folder.specs.declared.phases.Phase.TheVariants.{Between, WritingRun, SyncingRun, NamingRuns, Listing, ReadingBack}
use Rattle.uc_run_folder.specs.declared.run_action.RunAction.{RunAction}
use Rattle.uc_run_folder.specs.declared.run_action.RunAction.TheVariants.{Wait, WriteRun, SyncRun, NameRuns, OfFolder, ReadBack, RemoveRun}
use Rattle.uc_run_folder.specs.declared.run_folder.RunFolder.{RunFolder}

-- ---- the checkpointer

abbrev pub next_checkpoint : Phase → Checkpointer → RunAction
next_checkpoint Between c = OfFolder (folder.next_checkpoint c)
next_checkpoint (WritingRun n past r last) c = WriteRun r
next_checkpoint (SyncingRun n past r last) c = SyncRun r
next_checkpoint (NamingRuns n past) c = NameRuns
next_checkpoint Listing c = OfFolder (folder.next_checkpoint c)
next_checkpoint ReadingBack c = ReadBack

-- The machine of the folder after an operation. The list is requested once the names of its runs are durable.
abbrev pub folder_after : Phase → Machine → Bool → Machine
folder_after (NamingRuns n past) m true = record m { checkpointer = folder.checkpointing m.checkpointer (folder.may_begin m n past) n past }
folder_after Between m is_done = folder.told_checkpoint m is_done
folder_after Listing m is_done = folder.told_checkpoint m is_done
folder_after ReadingBack m false = folder.told_checkpoint m false
folder_after _ m is_done = m

-- A number of runs is written, from a number on.
abbrev pub begun : ℕ → ℕ → ℕ → ℕ → Phase
begun n past r count = if count == 0 then NamingRuns n past else WritingRun n past r (r + (count - 1))

-- after a run was synced, up to the last one
abbrev pub run_after : ℕ → ℕ → ℕ → ℕ → Phase
run_after n past r last = if nat_lt r last then WritingRun n past (r + 1) last else NamingRuns n past

abbrev pub listing_in : Checkpointer → Phase
listing_in (Writing n past) = Listing
listing_in c = Between

abbrev pub listed_after : Checkpointer → Bool → Phase
listed_after (Writing n past) true = Listing
listed_after (Sealing n past) true = Listing
listed_after (Renaming n past) true = Listing
listed_after (Fixing n past) true = ReadingBack
listed_after _ _ = Between

-- the phase after an operation, by the folder's phases before and after it
abbrev pub phase_after : Phase → Checkpointer → Checkpointer → Bool → Phase
phase_after (WritingRun n past r last) old new true = SyncingRun n past r last
phase_after (SyncingRun n past r last) old new true = run_after n past r last
phase_after (NamingRuns n past) old new true = listing_in new
phase_after Listing old new is_done = listed_after old is_done
phase_after _ old new is_done = Between

-- whether the newest list was read back
abbrev pub read_after : Phase → Checkpointer → Bool → Bool → Bool
read_after Listing (Fixing n past) true is_read = false
read_after ReadingBack c true is_read = true
read_after _ _ _ is_read = is_read

abbrev pub told_checkpoint : RunFolder → Bool → RunFolder
told_checkpoint m is_done = record {
  folder = folder_after m.phase m.folder is_done;
  phase = phase_after m.phase m.folder.checkpointer (folder_after m.phase m.folder is_done).checkpointer is_done;
  next = m.next;
  is_read = read_after m.phase m.folder.checkpointer is_done m.is_read;
}

-- ---- requests

abbrev pub has_run : ℕ → List ℕ → Bool
has_run r named = list_any (λ (k : ℕ). k == r) named

abbrev pub are_among : List ℕ → List ℕ → Bool
are_among kept named = list_all (λ (r : ℕ). has_run r named) kept

-- whether no checkpoint is in progress and nothing is removed
abbrev pub is_between : Phase → Checkpointer → Bool
is_between Between Idle = true
is_between _ _ = false

abbrev pub is_free : RunFolder → Bool
is_free m = is_open m.folder.writer && is_between m.phase m.folder.checkpointer

-- The number of a list exceeds that of each list before it. So no list takes the place of another one.
abbrev pub is_sought : Machine → ℕ → ℕ → Bool
is_sought m n past = nat_lt m.tried n && is_in_older m.log n past

abbrev pub is_none : List ℕ → Bool
is_none [] = true
is_none (r ∷ rs) = false

-- whether all numbers stay below 2^63
abbrev pub fits : ℕ → ℕ → Bool
fits next count = nat_lt next (2 ^ 63) && nat_lt count (2 ^ 63 - next)

-- A list is requested, with runs that are kept, and a number of new runs. The runs of a list that wasn't read back aren't kept.
abbrev pub may_write : RunFolder → ℕ → ℕ → List ℕ → List ℕ → ℕ → Bool
may_write m n past kept named count =
    fits m.next count && (is_free m && is_sought m.folder n past && (m.is_read || is_none kept) && are_among kept named)

abbrev pub asking : RunFolder → Bool → ℕ → ℕ → ℕ → RunFolder
asking m true n past count = record m { phase = begun n past m.next count; next = m.next + count }
asking m false n past count = m

-- Whether a run may be removed: only the newest list can be read, which doesn't name the run.
abbrev pub may_remove : RunFolder → ℕ → List ℕ → Bool
may_remove m r named = is_free m && m.is_read && m.folder.base == m.folder.tried && nat_lt r m.next && not (has_run r named)

abbrev pub next_removal : RunFolder → ℕ → List ℕ → RunAction
next_removal m r named = if may_remove m r named then RemoveRun r else Wait

-- ---- an opening

abbrev pub opened : Machine → ℕ → RunFolder
opened m next = record { folder = m; phase = Between; next = next; is_read = true }

-- whether an operation removes a file
abbrev pub removes : RunAction → Bool
removes (OfFolder (RemoveLog k)) = true
removes (OfFolder (RemoveBase k)) = true
removes (RemoveRun r) = true
removes _ = false

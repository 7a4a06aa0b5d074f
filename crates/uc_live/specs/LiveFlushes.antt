-- Flushes of a live store that are done away from it.
use Rattle.std.specs.Prelude.{◌≡◌, ◌≢◌, ℕ, ◌+◌, ◌-◌, ◌*◌, ◌^◌, ◌<◌, ◌≤◌, ◌==◌, Bool, true, false, ◌&&◌, ◌||◌, List, ◌++◌, length, drop, count_by, Option, Some, None, is_some, is_none, nat_le, nat_lt}
use Rattle.uc_bytes.specs.declared.write.Write.{Write}
use Rattle.uc_run.specs.declared.run.Run.{Run}
use Rattle.uc_run.specs.Flush.{flushed}
use Rattle.uc_run.specs.Size.{memtable_size}
use Rattle.uc_memtable.specs.Labels.{deletes_range}
use Rattle.uc_claims.specs.declared.table.TheConstants.{MOST_SLOTS}
use Rattle.uc_version_state.specs.declared.feed_error.FeedError.{FeedError}
use Rattle.uc_version_state.specs.declared.feed_error.FeedError.TheVariants.{Back, TooManyRuns, IdsSpent, Memory}
use Rattle.uc_version_state.specs.Installs.{IdLeft}
use Rattle.uc_version_state.specs.Feeds.{feed_refusal}
use Rattle.uc_version.specs.declared.job_stage.JobStage.{JobStage}
use Rattle.uc_version.specs.declared.job_stage.JobStage.TheVariants as stages
use Rattle.uc_version.specs.Feeding.{after_feed}
use Rattle.uc_version.specs.Jobs.{run_stage}
use Rattle.uc_live.specs.declared.flush_end.FlushEnd.{FlushEnd}
use Rattle.uc_live.specs.declared.flush_end.FlushEnd.TheVariants.{Installed, NotRun, FlushedBefore, Refused}
use Rattle.uc_live.specs.declared.live_options.TheConstants.{MOST_RANGES}
use Rattle.uc_live.specs.Lives.{Live, owner_in}

-- Writes have fewer bytes, and fewer range deletions, than fill all memtables of the store.
abbrev pub FillFewer : Live → List Write → Type 0
FillFewer l ws =
    (memtable_size ws < l.options.store.memtable * l.options.max_write_buffer_number)
    × (count_by deletes_range ws < MOST_RANGES * l.options.max_write_buffer_number)

-- The writes in memtables fill fewer memtables than the store may have.
abbrev pub HasRoom : Live → Type 0
HasRoom l = FillFewer l l.gathered

-- So did the writes in memtables before the last writes.
abbrev pub HadRoom : Live → List Write → Type 0
HadRoom l ws = (before : List Write) × (l.gathered ≡ before ++ ws) × FillFewer l before

-- what a flush job has: its number, the writes, which it keeps, and how far it is
pub record FlushTask : Type 0 where
  pub number : ℕ
  pub writes : List Write
  pub stage : JobStage

-- the job after it was run, and after its end
abbrev pub run : FlushTask → FlushTask
run task = record task { stage = run_stage task.stage }

abbrev pub ended : FlushTask → FlushTask
ended task = record task { stage = stages.Ended }

-- The run that was made is that of the writes, if the job was run.
abbrev pub IsMadeOf : FlushTask → Option Run → Type 0
IsMadeOf task None = task.stage ≢ stages.Run
IsMadeOf task (Some made) = (task.stage ≡ stages.Run) × (made ≡ flushed task.writes)

-- ---- its start

-- whether a memtable is full
abbrev pub is_full : Live → Bool
is_full l = nat_le l.options.store.memtable (memtable_size l.gathered) || nat_le MOST_RANGES (count_by deletes_range l.gathered)

-- Whether a flush job is taken out: a memtable is full, the store leaves flushes to such jobs, and none is pending. The last number
-- is never given.
abbrev pub wants_flush : Live → Bool
wants_flush l =
    is_none l.leaving && (nat_lt 1 l.options.max_write_buffer_number && (nat_lt l.flushes (2 ^ 64 - 1) && is_full l))

-- the job of all memtables, and the store after it was taken out
abbrev pub flush_of : Live → FlushTask
flush_of l = record { number = l.flushes + 1; writes = l.gathered; stage = stages.Taken }

abbrev pub with_flush : Live → Live
with_flush l = record l { flushes = l.flushes + 1; leaving = Some (length l.gathered) }

-- The memtables are taken out as a job, if that is requested. If not, nothing changes.
abbrev pub StartsFlush : Bool → Option FlushTask → Live → Live → Type 0
StartsFlush false task old new = (task ≡ None) × (new ≡ old)
StartsFlush true task old new = (task ≡ Some (flush_of old)) × (new ≡ with_flush old)

-- ---- its end

-- whether a flush job is out: it has the number of the last one, which is out
abbrev pub has_flush_out : Live → FlushTask → Bool
has_flush_out l task = is_some l.leaving && (l.flushes == task.number)

-- Some writes are the first ones of others.
abbrev pub Begin : List Write → List Write → Type 0
Begin ws all = (rest : List Write) × (all ≡ ws ++ rest)

-- If it is pending, its writes are those that are set apart, which are the first ones in memtables.
abbrev pub IsOwnFlush : Live → FlushTask → Type 0
IsOwnFlush l task = has_flush_out l task ≡ true → (l.leaving ≡ Some (length task.writes)) × Begin task.writes l.gathered

-- Why its run can't be added: no slot is left, or no id, or allocation failed.
abbrev pub LacksRoom : FeedError → Live → Type 0
LacksRoom (Back last) l = ⊥
LacksRoom TooManyRuns l = MOST_SLOTS ≤ length l.version.runs
LacksRoom IdsSpent l = IdLeft l.version → ⊥
LacksRoom Memory l = Unit {0}

-- the store after it came back without a run, and after its run was installed
abbrev pub without_flush : Live → Live
without_flush l = record l { leaving = None }

abbrev pub with_flushed : FlushTask → Live → Live
with_flushed task l =
    let owner = after_feed task.writes (owner_in l) in
    record l { version = owner.version; claims = owner.claims; gathered = drop (length task.writes) l.gathered; leaving = None }

-- The result of the job: its run is installed, and gets the next id; or it wasn't run; or its writes were flushed before; or its
-- run can't be installed. In each case no flush job is pending any more.
abbrev pub EndsFlush : FlushTask → Live → Live → FlushEnd → Type 0
EndsFlush task old new (Installed id) =
    (task.stage ≡ stages.Run) × (has_flush_out old task ≡ true) × (feed_refusal old.version task.writes ≡ None)
    × (id ≡ old.version.next_id) × (new ≡ with_flushed task old)
EndsFlush task old new NotRun = (task.stage ≢ stages.Run) × (has_flush_out old task ≡ true) × (new ≡ without_flush old)
EndsFlush task old new FlushedBefore = (has_flush_out old task ≡ false) × (new ≡ old)
EndsFlush task old new (Refused error) =
    (task.stage ≡ stages.Run) × (has_flush_out old task ≡ true) × LacksRoom error old × (new ≡ without_flush old)

-- ---- between both

-- A flush job is pending, and hasn't ended: its writes are the oldest ones in memtables.
pub record IsFlushOut (task : FlushTask) (l : Live) : Type 0 where
  pub lasts : task.stage ≢ stages.Ended
  pub out : has_flush_out l task ≡ true
  pub leaving : l.leaving ≡ Some (length task.writes)
  pub begin : Begin task.writes l.gathered

-- It is out no more, since its writes were flushed.
pub record IsFlushSpent (task : FlushTask) (l : Live) : Type 0 where
  pub taken : task.number ≤ l.flushes
  pub not_out : has_flush_out l task ≡ false

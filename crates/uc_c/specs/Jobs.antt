-- Jobs that C holds, and what they do to their store.
use Rattle.std.specs.Prelude.{◌≡◌, ◌⊎◌, ◌+◌, ℕ, ℤ, Bool, true, false, ⊤, Option, Some, None, is_some, option_map, IfSome, MatchOption, IsSomeAnd}
use Rattle.uc_version.specs.declared.job_end.JobEnd.{JobEnd}
use Rattle.uc_version.specs.declared.job_end.JobEnd.TheVariants as ends
use Rattle.uc_version.specs.declared.job_stage.JobStage.TheVariants as stages
use Rattle.uc_version.specs.Claiming.{is_held}
use Rattle.uc_version.specs.Jobs as compactions
use Rattle.uc_live.specs.declared.flush_end.FlushEnd.{FlushEnd}
use Rattle.uc_live.specs.declared.flush_end.FlushEnd.TheVariants as flush_ends
use Rattle.uc_live.specs.LiveFlushes as flushes
use Rattle.uc_live.specs.LiveFlushes.{FlushTask, IsOwnFlush, EndsFlush, wants_flush}
use Rattle.uc_live.specs.Lives.{Live, owner_in}
use Rattle.uc_live.specs.LiveJobs.{EndsJob}
use Rattle.uc_engine.specs.declared.taken_job.TakenJob.{TakenJob}
use Rattle.uc_engine.specs.declared.taken_job.TakenJob.TheVariants.{Flush, Compaction}
use Rattle.uc_engine.specs.declared.store_job.StoreJob.{StoreJob}
use Rattle.uc_engine.specs.Engines.{Engined, meaning_of}
use Rattle.uc_engine.specs.EngineJobs as engine_jobs
use Rattle.uc_engine.specs.EngineJobs.{EngineTask}
use Rattle.uc_engine.specs.TakenJobs as taken_jobs
use Rattle.uc_engine.specs.StoreJobs as store_jobs
use Rattle.uc_engine.specs.StoreJobs.{IsOf}
use Rattle.uc_c.specs.declared.status.TheConstants.{OK, OUT_OF_MEMORY, NO_STORE, NO_JOB, HAS_JOB, NOT_OF_STORE, JOB_ENDED}
use Rattle.uc_c.specs.Replies.{IfThere, IsRead}

abbrev pub HasEnded : TakenJob → Type 0
HasEnded job = taken_jobs.stage_of job ≡ stages.Ended

-- ---- its start

-- A job is taken, if there is one.
abbrev pub Takes : Option TakenJob → Engined → Engined → Type 0
Takes job e e' = taken_jobs.Takes job e e'

-- So it is, and has the id of the store.
abbrev pub TakesOne : Option StoreJob → Engined → Engined → Type 0
TakesOne job e e' = Takes (option_map (λ j. j.job) job) e e' × IfSome job (λ j. IsOf e j)

-- None is, and nothing changes but how many flush jobs were taken, if one was wanted.
abbrev pub TakesNone : Engined → Engined → Type 0
TakesNone e e' =
    (e' ≡ e)
    ⊎ ((wants_flush e.live ≡ true) × (e' ≡ record e { live = record e.live { flushes = e.live.flushes + 1 } }))

-- ---- its end

-- The store holds the claim of a compaction.
abbrev pub HasOut : Engined → EngineTask → Type 0
HasOut e t = (t.kind ≡ e.kind) × (is_held (owner_in e.live) t.task.claim ≡ true)

-- A job that hasn't ended was made of what the store has for it: a compaction of the runs of its claim, if that is held, and
-- a flush of the oldest writes, if it is out.
abbrev pub IsOwn : Engined → TakenJob → Type 0
IsOwn e (Flush f) = ¬ HasEnded (Flush f) → IsOwnFlush e.live f
IsOwn e (Compaction t) = ¬ HasEnded (Compaction t) → HasOut e t → compactions.IsOwn (owner_in e.live) t.task

-- So it is with each job that has the store's id. No two stores have one: so it is with each job that is there, whichever
-- store it is held against.
abbrev pub IsOwnJob : Option Engined → Option StoreJob → Type 0
IsOwnJob None job = ⊤
IsOwnJob (Some e) None = ⊤
IsOwnJob (Some e) (Some j) = IsOf e j → IsOwn e j.job

-- whether the run of a job was installed
abbrev pub is_installed : JobEnd → Bool
is_installed (ends.Installed id) = true
is_installed ends.NotRun = false
is_installed (ends.Refused error) = false

abbrev pub is_flushed : FlushEnd → Bool
is_flushed (flush_ends.Installed id) = true
is_flushed flush_ends.NotRun = false
is_flushed flush_ends.FlushedBefore = false
is_flushed (flush_ends.Refused error) = false

-- The job came back: its run is installed or not.
abbrev pub EndsCompaction : EngineTask → Bool → Engined → Engined → Type 0
EndsCompaction t installed e e' =
    (e'.kind ≡ e.kind) × ((end : JobEnd) × EndsJob (meaning_of e.kind) t.task e.live e'.live end × (installed ≡ is_installed end))

abbrev pub EndsFlushJob : FlushTask → Bool → Engined → Engined → Type 0
EndsFlushJob f installed e e' =
    (e'.kind ≡ e.kind) × ((end : FlushEnd) × EndsFlush f e.live e'.live end × (installed ≡ is_flushed end))

-- It has ended, and this came of it; or the store doesn't hold its claim, and nothing changes.
abbrev pub IsBack : Engined → Engined → TakenJob → TakenJob → Option Bool → Type 0
IsBack e e' (Flush f) job' (Some installed) = (job' ≡ Flush (flushes.ended f)) × EndsFlushJob f installed e e'
IsBack e e' (Flush f) job' None = ⊥
IsBack e e' (Compaction t) job' (Some installed) =
    HasOut e t × (job' ≡ Compaction (engine_jobs.ended t)) × EndsCompaction t installed e e'
IsBack e e' (Compaction t) job' None = ¬ HasOut e t × (job' ≡ Compaction t) × (e' ≡ e)

-- So it is, if the job is of the store; else nothing changes.
abbrev pub IsTakenBack : Engined → Engined → StoreJob → StoreJob → Option Bool → Type 0
IsTakenBack e e' j j' (Some installed) = IsOf e j × (j'.store ≡ j.store) × IsBack e e' j.job j'.job (Some installed)
IsTakenBack e e' j j' None = (j' ≡ j) × (e' ≡ e) × (IsOf e j → IsBack e e' j.job j.job None)

-- A job that was just taken goes back, and nothing is left of it.
abbrev pub CanGoBack : Engined → TakenJob → Type 0
CanGoBack e (Flush f) = (f.stage ≡ stages.Taken) × IsOwnFlush e.live f
CanGoBack e (Compaction t) = (t.task.stage ≡ stages.Taken) × HasOut e t × compactions.IsOwn (owner_in e.live) t.task

abbrev pub GoesBack : Engined → Engined → TakenJob → Type 0
GoesBack e e' (Flush f) = EndsFlushJob f false e e'
GoesBack e e' (Compaction t) = EndsCompaction t false e e'

module _ (status : ℤ) (store store' : Option Engined) (job job' : Option StoreJob) where
  -- neither the store changes nor the job
  abbrev pub BothStay : Type 0
  BothStay = (store' ≡ store) × (job' ≡ job)

  -- a job is taken, if there is one, or the status says why not
  abbrev pub TakesJob : Bool → Type 0
  TakesJob taken =
      MatchOption job
      (MatchOption store ((status ≡ NO_STORE) × BothStay)
      (λ e. ((status ≡ OK) × (taken ≡ is_some job') × IsSomeAnd store' (TakesOne job' e))
      ⊎ ((status ≡ OUT_OF_MEMORY) × (job' ≡ job) × IsSomeAnd store' (TakesNone e))))
      (λ _. (status ≡ HAS_JOB) × BothStay)

  -- the job ends, if it is of the store, and is kept, or the status says why not
  abbrev pub EndsTaken : Bool → Type 0
  EndsTaken installed =
      MatchOption job ((status ≡ NO_JOB) × BothStay)
      (λ t. ((status ≡ JOB_ENDED) × HasEnded t.job × BothStay)
      ⊎ (¬ HasEnded t.job × MatchOption store ((status ≡ NO_STORE) × BothStay)
      (λ e. ((status ≡ OK) × IsSomeAnd store' (λ e'. IsSomeAnd job' (λ t'. IsTakenBack e e' t t' (Some installed))))
      ⊎ ((status ≡ NOT_OF_STORE) × IsSomeAnd store' (λ e'. IsSomeAnd job' (λ t'. IsTakenBack e e' t t' None))))))

-- the job is run, if there is one that hasn't ended, or the status says why not
abbrev pub RunsJob : ℤ → Option StoreJob → Option StoreJob → Type 0
RunsJob status old new =
    IfThere NO_JOB status old new
    (λ t. ((status ≡ JOB_ENDED) × HasEnded t.job × (new ≡ old))
    ⊎ (¬ HasEnded t.job × (((status ≡ OK) × (new ≡ Some (store_jobs.run t))) ⊎ ((status ≡ OUT_OF_MEMORY) × (new ≡ old)))))

-- the size of the job's inputs is stored, if there is a job
abbrev pub TellsSize : ℤ → Option StoreJob → Option StoreJob → ℕ → Type 0
TellsSize status old new bytes = IsRead NO_JOB status old new (λ t. (status ≡ OK) × (bytes ≡ store_jobs.input_size t))

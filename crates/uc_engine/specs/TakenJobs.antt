-- Jobs of either kind that are taken out of an engine.
use Rattle.std.specs.Prelude.{◌≡◌, ℕ, Bool, true, false, Option, Some, None}
use Rattle.uc_version.specs.Jobs as jobs
use Rattle.uc_version.specs.declared.job_stage.JobStage.{JobStage}
use Rattle.uc_live.specs.LiveFlushes as flushes
use Rattle.uc_live.specs.LiveFlushes.{StartsFlush, wants_flush}
use Rattle.uc_live.specs.LiveJobs.{StartsJob}
use Rattle.uc_engine.specs.declared.taken_job.TakenJob.{TakenJob}
use Rattle.uc_engine.specs.declared.taken_job.TakenJob.TheVariants.{Flush, Compaction}
use Rattle.uc_engine.specs.EngineJobs as compactions
use Rattle.uc_engine.specs.Engines.{Engined}

-- how far a job is
abbrev pub stage_of : TakenJob → JobStage
stage_of (Flush f) = f.stage
stage_of (Compaction t) = t.task.stage

-- how many bytes the runs have that it compacts; a flush compacts none
abbrev pub input_size : TakenJob → ℕ
input_size (Flush f) = 0
input_size (Compaction t) = jobs.input_size t.task

-- the job after it was run
abbrev pub run : TakenJob → TakenJob
run (Flush f) = Flush (flushes.run f)
run (Compaction t) = Compaction (compactions.run t)

-- A job is taken that is wanted: a flush, or else the compaction of what is picked, if anything is.
abbrev pub TakesFor : Bool → Option TakenJob → Engined → Engined → Type 0
TakesFor true None e e' = ⊥
TakesFor true (Some (Flush f)) e e' = StartsFlush true (Some f) e.live e'.live
TakesFor true (Some (Compaction t)) e e' = ⊥
TakesFor false None e e' = StartsJob None e.live e'.live
TakesFor false (Some (Flush f)) e e' = ⊥
TakesFor false (Some (Compaction t)) e e' = StartsJob (Some t.task) e.live e'.live × (t.kind ≡ e.kind)

abbrev pub Takes : Option TakenJob → Engined → Engined → Type 0
Takes job e e' = (e'.kind ≡ e.kind) × TakesFor (wants_flush e.live) job e e'

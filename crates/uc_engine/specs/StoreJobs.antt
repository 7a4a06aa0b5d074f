-- Jobs with the store that they were taken from.
use Rattle.std.specs.Prelude.{◌≡◌, ℕ}
use Rattle.uc_version.specs.declared.job_stage.JobStage.{JobStage}
use Rattle.uc_engine.specs.declared.store_job.StoreJob.{StoreJob}
use Rattle.uc_engine.specs.Engines.{Engined}
use Rattle.uc_engine.specs.TakenJobs as taken

-- The job was taken from a store with this one's id.
abbrev pub IsOf : Engined → StoreJob → Type 0
IsOf e j = e.live.options.id ≡ j.store

-- how far it is
abbrev pub stage_of : StoreJob → JobStage
stage_of j = taken.stage_of j.job

-- how many bytes the runs have that it compacts
abbrev pub input_size : StoreJob → ℕ
input_size j = taken.input_size j.job

-- the job after it was run
abbrev pub run : StoreJob → StoreJob
run j = record j { job = taken.run j.job }

-- How a flush job is held.
use Rattle.std.specs.Prelude.{◌≡◌, ◌≢◌, ⊤, List, []}
use Rattle.std.specs.Arc.{arc_value}
use Rattle.uc_bytes.specs.declared.write.Write.{Write}
use Rattle.uc_run.specs.Flush.{flushed}
use Rattle.uc_version.specs.declared.job_stage.JobStage.{JobStage}
use Rattle.uc_version.specs.declared.job_stage.JobStage.TheVariants as stages
use Rattle.uc_live.specs.declared.flush_job.Progress.{Progress}
use Rattle.uc_live.specs.declared.flush_job.Progress.TheVariants.{Taken, Run, Ended}
use Rattle.uc_live.specs.LiveFlushes.{FlushTask}
use Rattle.uc_live.specs.declared.flush_job.FlushJob.TheInside.{Inside}

abbrev pub stage_of : Progress → JobStage
stage_of Taken = stages.Taken
stage_of (Run run) = stages.Run
stage_of (Ended kept) = stages.Ended

abbrev pub flush_task : Inside → FlushTask
flush_task i = record { number = i.number; writes = i.memtables.shown; stage = stage_of i.progress }

-- The run is that of the writes, if it was made.
abbrev pub IsMade : List Write → Progress → Type 0
IsMade ws Taken = ⊤
IsMade ws (Run run) = arc_value run ≡ flushed ws
IsMade ws (Ended kept) = ⊤

-- there are writes
pub record IsFlushJob (i : Inside) : Type 0 where
  pub some : i.memtables.shown ≢ []
  pub made : IsMade i.memtables.shown i.progress

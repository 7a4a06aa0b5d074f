-- How a job is held.
use Rattle.std.specs.Prelude.{◌≡◌, ⊤}
use Rattle.uc_compact.specs.Inputs.{Compaction}
use Rattle.uc_version.specs.declared.job_stage.JobStage.{JobStage}
use Rattle.uc_version.specs.declared.job_stage.JobStage.TheVariants as stages
use Rattle.uc_version.specs.declared.job.Progress.{Progress}
use Rattle.uc_version.specs.declared.job.Progress.TheVariants.{Taken, Run, Ended, Refused}
use Rattle.uc_version.specs.Jobs.{Task}
use Rattle.uc_version.specs.declared.job.Job.TheInside.{Inside}

abbrev pub stage_of : {O : Type 0} → Progress O → JobStage
stage_of Taken = stages.Taken
stage_of (Run made) = stages.Run
stage_of Ended = stages.Ended
stage_of (Refused made) = stages.Ended

abbrev pub task : {O : Type 0} → Inside O → Task
task i = record { claim = i.claim; compaction = i.asked; stage = stage_of i.progress }

-- The result made of the runs is the requested one, if it was made.
abbrev pub IsMade : {O : Type 0} → Compaction → Progress O → Type 0
IsMade asked Taken = ⊤
IsMade asked (Run made) = made ≡ asked
IsMade asked Ended = ⊤
IsMade asked (Refused made) = ⊤

abbrev pub IsTask : {O : Type 0} → Inside O → Type 0
IsTask i = IsMade i.asked i.progress

-- Jobs of an engine.
use Rattle.std.specs.Prelude.{Option, option_map}
use Rattle.uc_version.specs.Jobs as jobs
use Rattle.uc_version.specs.Jobs.{Task}
use Rattle.uc_engine.specs.declared.operator_kind.OperatorKind.{OperatorKind}

-- which operator merges, and what the job has
pub record EngineTask : Type 0 where
  pub kind : OperatorKind
  pub task : Task

-- the job of the store, if there is one
abbrev pub task_in : Option EngineTask → Option Task
task_in job = option_map (λ j. j.task) job

-- the job after it was run, and after its end
abbrev pub run : EngineTask → EngineTask
run job = record job { task = jobs.run job.task }

abbrev pub ended : EngineTask → EngineTask
ended job = record job { task = jobs.ended job.task }

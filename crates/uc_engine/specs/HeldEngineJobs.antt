-- How a job of an engine is held.
use Rattle.uc_version.specs.Jobs.{Task}
use Rattle.uc_engine.specs.declared.operator_kind.OperatorKind.{OperatorKind}
use Rattle.uc_engine.specs.declared.operator_kind.OperatorKind.TheVariants as kinds
use Rattle.uc_engine.specs.declared.engine_job.AnyJob.{AnyJob}
use Rattle.uc_engine.specs.declared.engine_job.AnyJob.TheVariants.{Append, Counter, Maximum, Tail, Mixed}
use Rattle.uc_engine.specs.declared.engine_job.EngineJob.TheInside.{Inside}
use Rattle.uc_engine.specs.EngineJobs.{EngineTask}

abbrev pub kind_of : AnyJob → OperatorKind
kind_of (Append t) = kinds.Append
kind_of (Counter t) = kinds.Counter
kind_of (Maximum t) = kinds.Maximum
kind_of (Tail t) = kinds.Tail
kind_of (Mixed t) = kinds.Mixed

abbrev pub task_of : AnyJob → Task
task_of (Append t) = t
task_of (Counter t) = t
task_of (Maximum t) = t
task_of (Tail t) = t
task_of (Mixed t) = t

abbrev pub engine_task : Inside → EngineTask
engine_task i = record { kind = kind_of i.job; task = task_of i.job }

-- How a checkpoint of a view of an engine is held.
use Rattle.uc_checkpoint.specs.Checkpoints.{Progress}
use Rattle.uc_engine.specs.declared.operator_kind.OperatorKind.{OperatorKind}
use Rattle.uc_engine.specs.declared.operator_kind.OperatorKind.TheVariants as kinds
use Rattle.uc_engine.specs.declared.engine_checkpoint.AnyCheckpoint.{AnyCheckpoint}
use Rattle.uc_engine.specs.declared.engine_checkpoint.AnyCheckpoint.TheVariants.{Append, Counter, Maximum, Tail, Mixed}
use Rattle.uc_engine.specs.declared.engine_checkpoint.EngineCheckpoint.TheInside.{Inside}
use Rattle.uc_engine.specs.EngineCheckpoints.{EngineProgress}

abbrev pub kind_of : AnyCheckpoint → OperatorKind
kind_of (Append p) = kinds.Append
kind_of (Counter p) = kinds.Counter
kind_of (Maximum p) = kinds.Maximum
kind_of (Tail p) = kinds.Tail
kind_of (Mixed p) = kinds.Mixed

abbrev pub progress_of : AnyCheckpoint → Progress
progress_of (Append p) = p
progress_of (Counter p) = p
progress_of (Maximum p) = p
progress_of (Tail p) = p
progress_of (Mixed p) = p

abbrev pub engine_progress : Inside → EngineProgress
engine_progress i = record { kind = kind_of i.checkpoint; progress = progress_of i.checkpoint }

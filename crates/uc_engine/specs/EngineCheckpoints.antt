-- A checkpoint of a view of an engine.
use Rattle.uc_checkpoint.specs.Checkpoints.{Progress}
use Rattle.uc_engine.specs.declared.operator_kind.OperatorKind.{OperatorKind}
use Rattle.uc_engine.specs.EngineViews.{Viewed}

-- which operator merges, and how far the view is laid out
pub record EngineProgress : Type 0 where
  pub kind : OperatorKind
  pub progress : Progress

-- that of a view of which nothing is laid out yet
abbrev pub begun : Viewed → EngineProgress
begun v = record { kind = v.kind; progress = record { seen = v.seen; rows = 0 } }

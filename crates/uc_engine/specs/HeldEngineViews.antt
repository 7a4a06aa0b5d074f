-- How a view of an engine is held.
use Rattle.uc_live.specs.Views.{Seen}
use Rattle.uc_engine.specs.declared.operator_kind.OperatorKind.{OperatorKind}
use Rattle.uc_engine.specs.declared.operator_kind.OperatorKind.TheVariants as kinds
use Rattle.uc_engine.specs.declared.engine_view.AnyView.{AnyView}
use Rattle.uc_engine.specs.declared.engine_view.AnyView.TheVariants.{Append, Counter, Maximum, Tail, Mixed}
use Rattle.uc_engine.specs.declared.engine_view.EngineView.TheInside.{Inside}
use Rattle.uc_engine.specs.EngineViews.{Viewed}

abbrev pub kind_of : AnyView → OperatorKind
kind_of (Append s) = kinds.Append
kind_of (Counter s) = kinds.Counter
kind_of (Maximum s) = kinds.Maximum
kind_of (Tail s) = kinds.Tail
kind_of (Mixed s) = kinds.Mixed

abbrev pub seen_of : AnyView → Seen
seen_of (Append s) = s
seen_of (Counter s) = s
seen_of (Maximum s) = s
seen_of (Tail s) = s
seen_of (Mixed s) = s

abbrev pub viewed : Inside → Viewed
viewed i = record { kind = kind_of i.view; seen = seen_of i.view }

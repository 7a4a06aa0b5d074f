-- How an engine is held.
use Rattle.uc_live.specs.Lives.{Live}
use Rattle.uc_engine.specs.declared.operator_kind.OperatorKind.{OperatorKind}
use Rattle.uc_engine.specs.declared.operator_kind.OperatorKind.TheVariants as kinds
use Rattle.uc_engine.specs.declared.engine.AnyStore.{AnyStore}
use Rattle.uc_engine.specs.declared.engine.AnyStore.TheVariants.{Append, Counter, Maximum, Tail, Mixed}
use Rattle.uc_engine.specs.declared.engine.Engine.TheInside.{Inside}
use Rattle.uc_engine.specs.Engines.{Engined}

abbrev pub kind_of : AnyStore → OperatorKind
kind_of (Append l) = kinds.Append
kind_of (Counter l) = kinds.Counter
kind_of (Maximum l) = kinds.Maximum
kind_of (Tail l) = kinds.Tail
kind_of (Mixed l) = kinds.Mixed

abbrev pub live_of : AnyStore → Live
live_of (Append l) = l
live_of (Counter l) = l
live_of (Maximum l) = l
live_of (Tail l) = l
live_of (Mixed l) = l

abbrev pub engined : Inside → Engined
engined i = record { kind = kind_of i.store; live = live_of i.store }

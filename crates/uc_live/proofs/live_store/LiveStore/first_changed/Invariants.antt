use Rattle.std.proofs.Common.{take}
use Rattle.std.specs.Prelude.{None}
use Rattle.uc_live.specs.Judging.{value_before, value_now}
use Rattle.uc_serial.specs.ReadSets.{IsFirstChanged}
use Rattle.uc_live.proofs.live_store.LiveStore.first_changed.Given as goal

abbrev pub invariant-loop-place : goal.invariant-loop-place
invariant-loop-place g l = IsFirstChanged (value_before g.P.Operator.meaning l.view) (value_now g.O.Operator.meaning l.self) (take l.place l.reads) None

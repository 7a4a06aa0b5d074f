use Rattle.std.proofs.Common.{◌≡◌}
use Rattle.calls.proofs.hall_pins.write_busy.Given as goal

abbrev pub invariant-loop-slot : goal.invariant-loop-slot
invariant-loop-slot g l = l.seat.table ≡ l.store.table

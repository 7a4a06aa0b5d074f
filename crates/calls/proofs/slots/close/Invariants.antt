use Rattle.std.proofs.Common.{◌≡◌}
use Rattle.calls.proofs.slots.close.Given as goal

abbrev pub invariant-loop-slot : goal.invariant-loop-slot
invariant-loop-slot l = l.seat.table ≡ l.table.table

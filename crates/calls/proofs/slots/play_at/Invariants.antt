use Rattle.std.proofs.Common.{◌≡◌}
use Rattle.calls.proofs.slots.play_at.Given as goal

abbrev pub invariant-loop : goal.invariant-loop
invariant-loop g l = (l.one.table ≡ l.table.table) × (l.other.table ≡ l.table.table)

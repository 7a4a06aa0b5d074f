use Rattle.std.proofs.Common.{◌≡◌}
use Rattle.bench_beside.proofs.claims.work.Given as goal

abbrev pub invariant-loop : goal.invariant-loop
invariant-loop l = l.seat.table ≡ l.table.table

use Rattle.std.proofs.Common.{◌≡◌}
use Rattle.uc_tests_threads.proofs.claimants.work.Given as goal

abbrev pub invariant-loop : goal.invariant-loop
invariant-loop l = l.seat.table ≡ l.table.table

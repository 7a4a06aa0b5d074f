use Rattle.std.proofs.Common.{◌≡◌, ◌<◌}
use Rattle.uc_query_workers.specs.Draws.{past}
use Rattle.uc_tests_threads.proofs.pieces.work.Given as goal

abbrev pub invariant-loop : goal.invariant-loop
invariant-loop l = record {
  table : l.seat.table ≡ l.fn.counter.table;
  parts : l.seat.parts ≡ l.fn.seat.parts;
  all : l.seat.all ≡ l.fn.seat.all;
  may : past l.fn.counter.pieces l.seat.numbers < l.seat.parts;
}

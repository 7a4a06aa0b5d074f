use Rattle.std.proofs.Common.{◌≡◌, ◌+◌, All, length, vec_len}
use Rattle.uc_tool_ask.proofs.crew.crew_of.Given as goal

abbrev pub invariant-loop-seat : goal.invariant-loop-seat
invariant-loop-seat g l = record {
  rest : All (λ seat. seat.table ≡ l.store.table) l.seat-iterator.rest.items;
  all : length l.yielded + length l.seat-iterator.rest.items ≡ vec_len l.fn.seats;
  left : vec_len l.readers + length l.yielded ≡ vec_len l.fn.readers;
}

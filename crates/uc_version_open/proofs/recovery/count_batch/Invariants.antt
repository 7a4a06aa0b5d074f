use Rattle.std.proofs.Common.{◌≡◌, ◌+◌, ◌<◌, ◌^◌, length}
use Rattle.uc_version_open.proofs.recovery.count_batch.Given as goal

abbrev pub invariant-loop : goal.invariant-loop
invariant-loop l = record {
  counted : l.count ≡ l.fn.count + length l.yielded;
  room : l.count + length l.iterator' < 2 ^ 64;
}

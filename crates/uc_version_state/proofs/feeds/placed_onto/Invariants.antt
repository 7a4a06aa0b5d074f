use Rattle.std.proofs.Common.{◌≡◌, ◌+◌, length}
use Rattle.uc_version_state.specs.Flushes.{placed_onto}
use Rattle.uc_version_state.proofs.feeds.placed_onto.Given as goal

abbrev pub invariant-loop-run : goal.invariant-loop-run
invariant-loop-run l = record {
  so_far : l.placed.items ≡ placed_onto l.fn.id l.fn.placed.items l.yielded;
  next : l.id ≡ l.fn.id + length l.yielded;
}

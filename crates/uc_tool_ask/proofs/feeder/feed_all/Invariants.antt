use Rattle.std.proofs.Common.{◌≡◌, ◌++◌, length}
use Rattle.uc_tool_ask.specs.Feeding.{AreFed}
use Rattle.uc_tool_ask.proofs.feeder.feed_all.Given as goal

abbrev pub invariant-loop-write : goal.invariant-loop-write
invariant-loop-write g l = record {
  fed : l.fed ≡ length l.yielded;
  all : l.yielded ++ l.write-iterator.rest.items ≡ l.fn.writes.items;
  seen : AreFed l.yielded l.fn.reader l.reader;
}

use Rattle.std.proofs.Common.{◌≡◌, ◌<◌, ◌++◌, length, vec_len}
use Rattle.uc_tool_ask.proofs.parted_input.part_input.Given as goal

abbrev pub invariant-loop-head : goal.invariant-loop-head
invariant-loop-head l = record {
  whole : l.front.items ++ l.rest ≡ l.fn.input;
  some : 0 < length l.rest → 0 < vec_len l.front;
}

abbrev pub decreases-loop-head : goal.decreases-loop-head
decreases-loop-head l = length l.rest

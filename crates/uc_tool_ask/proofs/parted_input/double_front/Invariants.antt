use Rattle.std.proofs.Common.{◌≡◌, ◌≤◌, ◌+◌, ◌-◌, ◌++◌, length, vec_len}
use Rattle.uc_tool_ask.proofs.parted_input.double_front.Given as goal

abbrev pub invariant-loop-missing : goal.invariant-loop-missing
invariant-loop-missing l = record {
  whole : l.front.items ++ l.rest ≡ l.fn.front.items ++ l.fn.rest;
  longer : vec_len l.fn.front ≤ vec_len l.front;
  left : length l.rest ≡ (length l.fn.rest - vec_len l.fn.front) + l.missing;
}

abbrev pub decreases-loop-missing : goal.decreases-loop-missing
decreases-loop-missing l = l.missing

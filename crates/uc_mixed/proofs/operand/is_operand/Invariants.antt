use Rattle.std.proofs.Common.{◌≡◌, ◌≤◌, length, take}
use Rattle.uc_mixed.specs.Operands as operands
use Rattle.uc_mixed.proofs.operand.is_operand.Given as goal

abbrev pub invariant-loop-part : goal.invariant-loop-part
invariant-loop-part l = record {
  within : l.end ≤ length l.bytes;
  same : operands.is_operand l.bytes ≡ operands.is_operand (take l.end l.bytes);
}

abbrev pub decreases-loop-part : goal.decreases-loop-part
decreases-loop-part l = l.end

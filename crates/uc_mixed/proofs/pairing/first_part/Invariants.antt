use Rattle.std.proofs.Common.{◌≡◌, ◌++◌, ◌≤◌, ℕ, List, length, take, drop}
use Rattle.uc_mixed.specs.Mixing as mixing
use Rattle.uc_mixed.proofs.pairing.first_part.Given as goal

abbrev pub invariant-loop-part : goal.invariant-loop-part
invariant-loop-part l = record {
  within : l.end ≤ length l.operand;
  follows : (older : List ℕ) → mixing.paired older l.operand ≡ mixing.paired older (take l.end l.operand) ++ drop l.end l.operand;
}

abbrev pub decreases-loop-part : goal.decreases-loop-part
decreases-loop-part l = l.end

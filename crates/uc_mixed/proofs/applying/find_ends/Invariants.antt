use Rattle.std.proofs.Common.{◌≡◌, ◌≤◌, ℕ, List, Option, length, take}
use Rattle.uc_mixed.specs.Parts as parts
use Rattle.uc_mixed.specs.Mixing as mixing
use Rattle.uc_mixed.specs.Walks as walks
use Rattle.uc_mixed.proofs.applying.find_ends.Given as goal

abbrev pub invariant-loop-part : goal.invariant-loop-part
invariant-loop-part l = record {
  within : l.end ≤ length l.operand;
  parts : (value : Option (List ℕ)) → walks.finished l.operand (parts.backward l.ends.items) (mixing.after value (take l.end l.operand)) ≡ mixing.after value l.operand;
}

abbrev pub decreases-loop-part : goal.decreases-loop-part
decreases-loop-part l = l.end

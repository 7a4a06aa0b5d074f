use Rattle.std.proofs.Common.{◌≡◌, ◌++◌, length}
use Rattle.uc_batch.proofs.pieces.Pieces.push_bytes.Given as goal

abbrev pub invariant-loop-left : goal.invariant-loop-left
invariant-loop-left l = l.self ++ l.left ≡ l.fn.self ++ l.fn.bytes

abbrev pub decreases-loop-left : goal.decreases-loop-left
decreases-loop-left l = length l.left

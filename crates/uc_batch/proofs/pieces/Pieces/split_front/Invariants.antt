use Rattle.std.proofs.Common.{◌≡◌, ◌≤◌, ◌++◌, length}
use Rattle.uc_batch.proofs.pieces.Pieces.split_front.Given as goal

abbrev pub invariant-loop-front : goal.invariant-loop-front
invariant-loop-front l = record {
  same : l.front.items ++ l.self ≡ l.fn.self;
  most : length l.front.items ≤ l.size;
}

abbrev pub decreases-loop-front : goal.decreases-loop-front
decreases-loop-front l = length l.self

use Rattle.std.proofs.Common.{◌≡◌, ◌≤◌, length, drop}
use Rattle.uc_batch.specs.Unread.{bytes_ahead}
use Rattle.uc_batch.proofs.unread.Unread.skip.Given as goal

abbrev pub invariant-loop-self : goal.invariant-loop-self
invariant-loop-self l = record {
  within : l.self.at ≤ length l.self.piece.items;
  ahead : l.left ≤ length (bytes_ahead l.self);
  same : drop l.left (bytes_ahead l.self) ≡ drop l.fn.size (bytes_ahead l.fn.self);
}

abbrev pub decreases-loop-self : goal.decreases-loop-self
decreases-loop-self l = length l.self.rest

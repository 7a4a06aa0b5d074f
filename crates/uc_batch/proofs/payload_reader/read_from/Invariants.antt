use Rattle.std.proofs.Common.{◌≡◌, ◌≤◌, length}
use Rattle.uc_batch.specs.Unread.{bytes_ahead}
use Rattle.uc_batch.proofs.payload_reader.read_from.Given as goal

abbrev pub invariant-loop-payload : goal.invariant-loop-payload
invariant-loop-payload l = record {
  within : l.unread.at ≤ length l.unread.piece.items;
  same : bytes_ahead l.unread ≡ bytes_ahead l.fn.unread;
}

abbrev pub decreases-loop-payload : goal.decreases-loop-payload
decreases-loop-payload l = length l.unread.rest

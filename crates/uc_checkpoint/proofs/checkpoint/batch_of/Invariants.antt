use Rattle.std.proofs.Common.{◌≡◌, ◌≤◌, length, take, drop}
use Rattle.uc_checkpoint.specs.Checkpoints.{puts_of}
use Rattle.uc_checkpoint.proofs.checkpoint.batch_of.Given as goal

abbrev pub invariant-loop-key : goal.invariant-loop-key
invariant-loop-key l = record {
  few : length l.batch ≤ l.count;
  puts : l.batch ≡ puts_of (take (length l.batch) l.rows);
  ahead : drop (length l.batch) l.rows ≡ l.key-iterator;
}

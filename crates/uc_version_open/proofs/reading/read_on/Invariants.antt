use Rattle.std.proofs.Common.{◌≡◌, ◌≤◌}
use Rattle.uc_version_open.specs.Reading.{ReadsOn}
use Rattle.uc_version_open.proofs.reading.read_on.Given as goal

abbrev pub invariant-loop-opener : goal.invariant-loop-opener
invariant-loop-opener g l = record {
  as_far : l.opener.last ≡ l.batches.last;
  on : ReadsOn l.fn.batches l.fn.opener l.batches l.opener;
  fewer : l.batches.left ≤ l.fn.batches.left;
}

abbrev pub decreases-loop-opener : goal.decreases-loop-opener
decreases-loop-opener g l = l.batches.left

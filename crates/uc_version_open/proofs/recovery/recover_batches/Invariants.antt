use Rattle.uc_version_open.specs.Reading.{IsTaken, unread}
use Rattle.uc_version_open.proofs.recovery.recover_batches.Given as goal

abbrev pub invariant-loop-reading : goal.invariant-loop-reading
invariant-loop-reading g l = IsTaken l.fn.options l.fn.batches.ahead l.reading.batches l.reading.opener

abbrev pub decreases-loop-reading : goal.decreases-loop-reading
decreases-loop-reading g l = unread l.reading.ended l.reading.batches.left

use Rattle.std.proofs.Common.{◌≡◌, [], replicate}
use Rattle.uc_share.proofs.publisher.Publisher.readers.Given as goal

abbrev pub invariant-loop-number : goal.invariant-loop-number
invariant-loop-number g l = l.readers.items ≡ replicate l.number []

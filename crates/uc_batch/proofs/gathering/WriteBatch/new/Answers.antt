use Rattle.std.proofs.Common.{[]}
use Rattle.uc_batch.proofs.Gathered.{gathered, known, none_gathered}
use Rattle.uc_batch.proofs.gathering.WriteBatch.new.Goals as goal

pub invariant_of-result : goal.invariant_of-result
invariant_of-result c = known 0 c.in_ok-bytes.bytes.items [] (none_gathered c.in_ok-bytes.bytes.items c.in_ok-bytes.ensures.items)

pub returns : goal.returns
returns c = gathered 0 c.in_ok-bytes.bytes.items [] (none_gathered c.in_ok-bytes.bytes.items c.in_ok-bytes.ensures.items)

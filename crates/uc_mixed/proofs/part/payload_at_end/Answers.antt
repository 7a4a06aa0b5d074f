use Rattle.uc_mixed.proofs.Cutting.{cut-no_payload}
use Rattle.uc_mixed.proofs.part.payload_at_end.Goals as goal

pub returns-then-bytes-length : goal.returns-then-bytes-length
returns-then-bytes-length c = cut-no_payload c.args.bytes.now c.args.kind c.args.length c.if-bytes-length.true

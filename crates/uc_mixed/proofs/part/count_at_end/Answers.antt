use Rattle.uc_mixed.proofs.Cutting.{no_count}
use Rattle.uc_mixed.proofs.part.count_at_end.Goals as goal

pub returns-then-bytes-lt2 : goal.returns-then-bytes-lt2
returns-then-bytes-lt2 c = no_count c.args.bytes.now c.if-bytes-lt2.true

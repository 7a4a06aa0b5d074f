use Rattle.uc_mixed.proofs.Cutting.{cut-no_length}
use Rattle.uc_mixed.proofs.part.part_at_end.Goals as goal

pub returns-in-None : goal.returns-in-None
returns-in-None c = cut-no_length c.args.bytes.now c.args.kind c.in-None.ensures

use Rattle.uc_run.proofs.RankOrder.{bits_suffice}
use Rattle.uc_run.proofs.ranks.bits_below.Goals as goal

pub returns : goal.returns
returns c = bits_suffice c.args.count c.requires

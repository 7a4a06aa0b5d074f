use Rattle.std.proofs.Common.{arith}
use Rattle.uc_logrec.proofs.Remainders.{entry_at}
use Rattle.uc_logrec.proofs.table.remainder_of.Goals as goal

pub returns : goal.returns
returns c = entry_at c.args.behind c.args.byte c.requires (omega arith)

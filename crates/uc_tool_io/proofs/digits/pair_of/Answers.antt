use Rattle.std.proofs.Common.{arith}
use Rattle.uc_tool_io.proofs.HexPairs.{pair_at}
use Rattle.uc_tool_io.proofs.digits.pair_of.Goals as goal

pub returns : goal.returns
returns c = pair_at c.args.byte (omega arith)

use Rattle.std.proofs.Common.{[], ◌∷◌}
use Rattle.uc_tool_opening.proofs.laws.printed_bytes_are_read.Goals as goal

pub returns : goal.returns
returns c [] are_bytes = c.digits_are_read.ensures.none
returns c (byte ∷ rest) are_bytes = c.digits_are_read.ensures.some byte rest are_bytes

use Rattle.std.proofs.Common.{w64, arith}
use Rattle.std.proofs.lemmas.Nat.Bits.{bit_at-trailing_zeros}
use Rattle.uc_claims.proofs.slot_set.lowest_bit.Goals as goal

pub returns : goal.returns
returns c = let all = bit_at-trailing_zeros w64 c.args.bits c.requires (omega arith) in (all.0, all.1)

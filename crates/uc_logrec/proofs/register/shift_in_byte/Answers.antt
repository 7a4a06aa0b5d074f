use Rattle.std.proofs.Common.{arith}
use Rattle.uc_logrec.proofs.Shifts.{shifted, index_bits}
use Rattle.uc_logrec.proofs.register.shift_in_byte.Goals as goal

pub returns : goal.returns
returns c =
    shifted c.args.register c.args.byte _ c.remainder_of.result (omega arith) (index_bits c.args.register c.args.byte) c.remainder_of.ensures

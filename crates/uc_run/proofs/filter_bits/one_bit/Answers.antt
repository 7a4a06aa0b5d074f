use Rattle.std.proofs.Common.{◌%◌, arith}
use Rattle.std.proofs.lemmas.Nat.{one_shl}
use Rattle.uc_run.specs.Filters.{one_bit}
use Rattle.uc_run.proofs.filter_bits.one_bit.Goals as goal

pub returns : goal.returns
unfolding one_bit
returns c = one_shl (c.args.hash % 64) 64 (omega arith)

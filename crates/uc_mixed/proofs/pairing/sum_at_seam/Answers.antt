use Rattle.std.proofs.Common.{◌+◌, ◌%◌, ◌^◌, refl}
use Rattle.uc_mixed.proofs.Adding.{sums_at_seam}
use Rattle.uc_mixed.proofs.pairing.sum_at_seam.Goals as goal

pub returns-in-Some-addend_at_end : goal.returns-in-Some-addend_at_end
returns-in-Some-addend_at_end c =
    let a = c.in-Some-addend_at_end.sum in
    let b = c.in-Some.amount in
    sums_at_seam c.args.older.now c.args.newer.now a b ((a + b) % 2 ^ 64) c.if-newer-ne-ADDITION.false c.in-Some.ensures c.in-Some-addend_at_end.ensures refl

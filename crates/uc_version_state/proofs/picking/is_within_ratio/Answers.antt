use Rattle.std.proofs.Common.{◌≤◌, ◌+◌, ◌*◌, ◌^◌, arith}
use Rattle.std.proofs.Math.Nat.{mul-le-mul_left, mul-le-mul_right}
use Rattle.uc_version_state.proofs.picking.is_within_ratio.Goals as goal

pub overflow_mul-result-2 : goal.overflow_mul-result-2
overflow_mul-result-2 c =
    let p = 100 + c.from-2.result in
    let few : p ≤ 2 ^ 33 = omega (arith, c.from-2.ensures, c.ranges.ratio.fits) in
    let one : p * c.args.sum ≤ 2 ^ 33 * c.args.sum = mul-le-mul_right c.args.sum few in
    let two : 2 ^ 33 * c.args.sum ≤ 2 ^ 33 * 2 ^ 80 = mul-le-mul_left (2 ^ 33) c.requires in
    omega (arith, one, two)

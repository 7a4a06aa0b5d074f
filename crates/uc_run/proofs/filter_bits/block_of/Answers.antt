use Rattle.std.proofs.Common.{ℕ, zero, suc, ◌*◌, ◌/◌, ◌-◌, ◌^◌, ◌<◌, ◌≤◌, arith}
use Rattle.std.proofs.lemmas.Nat.{div_below}
use Rattle.std.proofs.Math.Nat.{mul-lt-mul_of_pos_right}
use Rattle.uc_run.proofs.filter_bits.block_of.Goals as goal

-- what a hash makes of so many blocks is the place of one of them
below : (hash blocks : ℕ) → hash < 2 ^ 64 → hash * blocks / 2 ^ 64 ≤ blocks - 1
below hash zero l = omega arith
below hash (suc n) l =
    let product : hash * suc n < 2 ^ 64 * suc n = mul-lt-mul_of_pos_right l (omega arith) in
    let place = div_below (hash * suc n) (2 ^ 64) (suc n) (omega arith) (omega (arith, product)) in
    omega (arith, place)

pub returns-clause-within : goal.returns-clause-within
returns-clause-within c = below c.from.result c.args.blocks (omega (arith, c.from.ensures, c.ranges.hash.fits))

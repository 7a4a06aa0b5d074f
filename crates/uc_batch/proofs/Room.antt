-- How large a number in a few bytes may be.
use Rattle.std.proofs.Common.{◌≡◌, ◌≢◌, ℕ, zero, suc, ◌-◌, ◌*◌, ◌^◌, ◌≤◌, refl, arith}
use Rattle.uc_batch.specs.Varint.{room_for}

pub room_from : (k : ℕ) → k ≢ 0 → room_for k ≡ 128 * room_for (k - 1)
room_from zero h = absurd (h refl)
room_from (suc k) h = let e : suc k - 1 ≡ k = omega arith in rw e refl

pub room_above : (k : ℕ) → 16 ≤ room_for k
room_above zero = omega arith
room_above (suc k) = omega (arith, room_above k)

pub room_within : (k : ℕ) → k ≤ 4 → room_for k ≤ 2 ^ 32
room_within zero h = omega arith
room_within (suc zero) h = omega arith
room_within (suc (suc zero)) h = omega arith
room_within (suc (suc (suc zero))) h = omega arith
room_within (suc (suc (suc (suc zero)))) h = omega arith
room_within (suc (suc (suc (suc (suc k))))) h = absurd (omega arith)

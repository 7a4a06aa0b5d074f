-- Masking and unmasking undo each other.
use Rattle.std.proofs.Common.{◌≡◌, ℕ, ◌+◌, ◌-◌, ◌*◌, ◌/◌, ◌%◌, ◌^◌, ◌<◌, bit_or, ap, ◌∙◌, arith}
use Rattle.std.proofs.lemmas.Nat.{or_comm, or_shifted}
use Rattle.uc_logrec.specs.Mask.{masked, unmasked, mask_delta}

-- a rotation to the right by 15, and one to the left
pub rotated_right : (n : ℕ) → n < 2 ^ 32 → bit_or (n / 2 ^ 15) (n * 2 ^ 17 % 2 ^ 32) ≡ n % 2 ^ 15 * 2 ^ 17 + n / 2 ^ 15
rotated_right n l =
    let e : n * 2 ^ 17 % 2 ^ 32 ≡ n % 2 ^ 15 * 2 ^ 17 = omega arith in
    ap (bit_or (n / 2 ^ 15)) e ∙ or_comm (n / 2 ^ 15) (n % 2 ^ 15 * 2 ^ 17) ∙ or_shifted (n % 2 ^ 15) 17 (n / 2 ^ 15) (omega arith)

pub rotated_left : (n : ℕ) → n < 2 ^ 32 → bit_or (n * 2 ^ 15 % 2 ^ 32) (n / 2 ^ 17) ≡ n % 2 ^ 17 * 2 ^ 15 + n / 2 ^ 17
rotated_left n l =
    let e : n * 2 ^ 15 % 2 ^ 32 ≡ n % 2 ^ 17 * 2 ^ 15 = omega arith in
    ap (λ (i : ℕ). bit_or i (n / 2 ^ 17)) e ∙ or_shifted (n % 2 ^ 17) 15 (n / 2 ^ 17) (omega arith)

pub unmasked-masked : (n : ℕ) → n < 2 ^ 32 → unmasked (masked n) ≡ n
unfolding unmasked masked
unmasked-masked n l =
    let turned = n % 2 ^ 15 * 2 ^ 17 + n / 2 ^ 15 in
    let back : ((turned + mask_delta) % 2 ^ 32 + (2 ^ 32 - mask_delta)) % 2 ^ 32 ≡ turned = omega arith in
    ap (λ (i : ℕ). i % 2 ^ 17 * 2 ^ 15 + i / 2 ^ 17) back ∙ omega arith

pub masked-unmasked : (n : ℕ) → n < 2 ^ 32 → masked (unmasked n) ≡ n
unfolding unmasked masked
masked-unmasked n l =
    let turned = (n + (2 ^ 32 - mask_delta)) % 2 ^ 32 in
    let back : (turned % 2 ^ 17 * 2 ^ 15 + turned / 2 ^ 17) % 2 ^ 15 * 2 ^ 17 + (turned % 2 ^ 17 * 2 ^ 15 + turned / 2 ^ 17) / 2 ^ 15 ≡ turned = omega arith in
    ap (λ (i : ℕ). (i + mask_delta) % 2 ^ 32) back ∙ omega arith

-- The bounds of numbers of a few bytes.
use Rattle.std.proofs.Common.{◌≡◌, ℕ, zero, suc, ◌+◌, ◌-◌, ◌≤◌, refl, subst, arith}
use Rattle.uc_log_crash.specs.Marks.{bound_of}

grows : (n m k : ℕ) → k ≡ m + n → bound_of n ≤ bound_of k
grows n zero k e =
    let same : n ≡ k = omega (arith, e) in
    subst (λ (j : ℕ). bound_of n ≤ bound_of j) same (omega arith)
grows n (suc m) k e =
    let last : suc (m + n) ≡ k = omega (arith, e) in
    let before : bound_of n ≤ bound_of (m + n) = grows n m (m + n) refl in
    let all : bound_of n ≤ bound_of (suc (m + n)) = omega (arith, before) in
    subst (λ (j : ℕ). bound_of n ≤ bound_of j) last all

-- eight bytes encode a number of 56 bits
pub within_eight : (n : ℕ) → n ≤ 8 → bound_of n ≤ 72057594037927936
within_eight n le = grows n (8 - n) 8 (omega (arith, le))

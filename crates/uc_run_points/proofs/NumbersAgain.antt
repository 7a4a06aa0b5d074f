-- Decoding an encoded number returns it.
use Rattle.std.proofs.Common.{◌≡◌, ℕ, ◌+◌, ◌-◌, ◌^◌, ◌<◌, ◌≤◌, Bool, true, false, cond, ltb, List, [], ◌∷◌, ◌++◌, length, take, drop, refl, ap, ◌∙◌, arith}
use Rattle.std.specs.Int.{w64, to_le_bytes, from_le_bytes}
use Rattle.std.proofs.lemmas.Bool.Decides.{nat_tests}
use Rattle.std.proofs.lemmas.List.{take_at, drop_at, length-take-le}
use Rattle.std.proofs.lemmas.Nat.{from_le_bytes-to_le_bytes_8}
use Rattle.uc_run_points.specs.Numbers.{width_of, number_text, number_from}

pick : (P : ℕ → Type 0) (n bound k m : ℕ) (b : Bool) → ltb n bound ≡ b → (n < bound → P k) → P m → P (cond b k m)
pick P n bound k m true e small large = small (grind (arith, nat_tests))
pick P n bound k m false e small large = large

-- a property that holds for each width holds for the width of a number
pub at_width : (P : ℕ → Type 0) (n : ℕ) → (n < 2 ^ 8 → P 1) → (n < 2 ^ 16 → P 2) → (n < 2 ^ 24 → P 3) → (n < 2 ^ 32 → P 4) → (n < 2 ^ 40 → P 5) → (n < 2 ^ 48 → P 6) → (n < 2 ^ 56 → P 7) → P 8 → P (width_of n)
unfolding width_of
at_width P n p1 p2 p3 p4 p5 p6 p7 p8 =
    pick P n (2 ^ 8) 1 _ (ltb n (2 ^ 8)) refl p1
    (pick P n (2 ^ 16) 2 _ (ltb n (2 ^ 16)) refl p2
    (pick P n (2 ^ 24) 3 _ (ltb n (2 ^ 24)) refl p3
    (pick P n (2 ^ 32) 4 _ (ltb n (2 ^ 32)) refl p4
    (pick P n (2 ^ 40) 5 _ (ltb n (2 ^ 40)) refl p5
    (pick P n (2 ^ 48) 6 _ (ltb n (2 ^ 48)) refl p6
    (pick P n (2 ^ 56) 7 8 (ltb n (2 ^ 56)) refl p7 p8))))))

pub width_bound : (n : ℕ) → (0 < width_of n) × (width_of n ≤ 8)
width_bound n =
    at_width (λ w. (0 < w) × (w ≤ 8)) n (λ _. (omega arith, omega arith)) (λ _. (omega arith, omega arith)) (λ _. (omega arith, omega arith)) (λ _. (omega arith, omega arith))
    (λ _. (omega arith, omega arith)) (λ _. (omega arith, omega arith)) (λ _. (omega arith, omega arith)) (omega arith, omega arith)

-- the first `w` bytes of a number determine it, since the others are 0
abbrev pub IsLow : ℕ → ℕ → Type 0
IsLow n w = from_le_bytes w64 (take w (to_le_bytes w64 n)) ≡ n

pub low_again : (n : ℕ) → n < 2 ^ 64 → IsLow n (width_of n)
low_again n fits =
    let all = from_le_bytes-to_le_bytes_8 n fits in
    at_width (IsLow n) n
    (λ l. omega (arith, l))
    (λ l. omega (arith, l))
    (λ l. omega (arith, l, all))
    (λ l. omega (arith, l, all))
    (λ l. omega (arith, l, all))
    (λ l. omega (arith, l, all))
    (λ l. omega (arith, l, all))
    all

abbrev pair : ℕ → List ℕ → ℕ × List ℕ
pair n rest = (n, rest)

long_again : (w n : ℕ) (rest : List ℕ) → 0 < w → w ≤ 8 → IsLow n w → (b : Bool) → ltb (247 + w) 248 ≡ b →
    cond b (pair (247 + w) (take w (to_le_bytes w64 n) ++ rest)) (pair (from_le_bytes w64 (take ((247 + w) - 247) (take w (to_le_bytes w64 n) ++ rest))) (drop ((247 + w) - 247) (take w (to_le_bytes w64 n) ++ rest))) ≡ pair n rest
long_again w n rest some small low true e = let lt : 247 + w < 248 = grind (arith, nat_tests) in absurd (omega (arith, some, lt))
long_again w n rest some small low false e =
    let same : (247 + w) - 247 ≡ w = omega arith in
    let low_bytes = take w (to_le_bytes w64 n) in
    let long : length low_bytes ≡ w = length-take-le w (to_le_bytes w64 n) small in
    ap (λ k. pair (from_le_bytes w64 (take k (low_bytes ++ rest))) (drop k (low_bytes ++ rest))) same
    ∙ ap (λ (xs : List ℕ). pair (from_le_bytes w64 xs) (drop w (low_bytes ++ rest))) (take_at low_bytes rest w long)
    ∙ ap (λ (xs : List ℕ). pair (from_le_bytes w64 low_bytes) xs) (drop_at low_bytes rest w long)
    ∙ ap (λ k. pair k rest) low

pub number_again : (n : ℕ) (rest : List ℕ) → n < 2 ^ 64 → number_from (number_text n ++ rest) ≡ (n, rest)
unfolding number_from number_text
number_again n rest fits = by (ltb n 248) refl
  where
    by : (b : Bool) → ltb n 248 ≡ b → number_from (cond b (n ∷ []) ((247 + width_of n) ∷ take (width_of n) (to_le_bytes w64 n)) ++ rest) ≡ (n, rest)
    by true e = ap (λ t. cond t (pair n rest) (pair (from_le_bytes w64 (take (n - 247) rest)) (drop (n - 247) rest))) e
    by false e = let w = width_bound n in long_again (width_of n) n rest w.0 w.1 (low_again n fits) (ltb (247 + width_of n) 248) refl

-- Stretches that are there.
use Rattle.std.proofs.Common.{◌≡◌, ℕ, ◌+◌, ◌-◌, ◌≤◌, Bool, true, false, cond, ltb, ◌||◌, refl, arith}
use Rattle.std.specs.Prelude.{Some, None}
use Rattle.std.proofs.lemmas.Bool.Decides.{nat_tests}
use Rattle.uc_version_state.specs.declared.stretch.Stretch.{Stretch}
use Rattle.uc_version_compact.specs.declared.claim_error.ClaimError.TheVariants.{OutOfRange, TooNarrow}
use Rattle.uc_version_compact.specs.Ranges.{range_refusal}

-- a stretch of two runs or more that is there
pub in_range : (n : ℕ) (s : Stretch) → 2 ≤ s.count → s.first + s.count ≤ n → range_refusal n s ≡ None
in_range n s two within =
    let first : ltb n s.first ≡ false = grind (arith, nat_tests) in
    let count : ltb (n - s.first) s.count ≡ false = grind (arith, nat_tests) in
    let wide : ltb s.count 2 ≡ false = grind (arith, nat_tests) in
    by_tests (ltb n s.first) (ltb (n - s.first) s.count) (ltb s.count 2) first count wide
  where
    by_tests : (a b c : Bool) → a ≡ false → b ≡ false → c ≡ false → cond (a || b) (Some OutOfRange) (cond c (Some TooNarrow) None) ≡ None
    by_tests false false false ea eb ec = refl
    by_tests true b c ea eb ec = absurd cc
    by_tests false true c ea eb ec = absurd cc
    by_tests false false true ea eb ec = absurd cc

-- a stretch whose range is valid
pub range_holds : (n : ℕ) (s : Stretch) → range_refusal n s ≡ None → (2 ≤ s.count) × (s.first + s.count ≤ n)
range_holds n s fine = by_tests (ltb n s.first) (ltb (n - s.first) s.count) (ltb s.count 2) refl refl refl fine
  where
    by_tests : (a b c : Bool) → ltb n s.first ≡ a → ltb (n - s.first) s.count ≡ b → ltb s.count 2 ≡ c →
        (cond (a || b) (Some OutOfRange) (cond c (Some TooNarrow) None)) ≡ None → (2 ≤ s.count) × (s.first + s.count ≤ n)
    by_tests true b c ea eb ec e = absurd cc
    by_tests false true c ea eb ec e = absurd cc
    by_tests false false true ea eb ec e = absurd cc
    by_tests false false false ea eb ec e = (grind (arith, nat_tests), grind (arith, nat_tests))

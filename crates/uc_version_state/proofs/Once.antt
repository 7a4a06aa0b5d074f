-- Numbers that stand once in a list.
use Rattle.std.proofs.Common.{◌≡◌, ℕ, ◌<◌, ◌≤◌, false, List, [], ◌∷◌, ltb, ◌∙◌, subst, refl, inl, inr, ⊎_elim, arith}
use Rattle.std.specs.Prelude.{◌⊎◌}
use Rattle.std.proofs.lemmas.Bool.{cases_eq}
use Rattle.std.specs.List.{AllByRecursion}
use Rattle.std.proofs.lemmas.Bool.Decides.{nat_tests}
use Rattle.uc_claims.specs.Claims.{times}
use Rattle.uc_claims.specs.Holding.{AreDistinct}
use Rattle.uc_claims.proofs.Times.{one_same, one_other, times-cons, times-append, list_any-times}

never_above : (n : ℕ) → n ≤ 0 → ltb 0 n ≡ false
never_above n le = grind (arith, nat_tests)

pub distinct-from_times : (xs : List ℕ) → ((k : ℕ) → times k xs ≤ 1) → AreDistinct xs
distinct-from_times [] once = tt
distinct-from_times (x ∷ xs) once =
    let here = once x in
    let none : times x xs ≤ 0 = omega (arith, here, times-cons x x xs, one_same x x refl) in
    (list_any-times x xs ∙ never_above (times x xs) none, distinct-from_times xs (λ k. let le = once k in omega (arith, le, times-cons k x xs)))

pub all-from_times : (P : ℕ → Type 0) (xs : List ℕ) → ((k : ℕ) → 0 < times k xs → P k) → AllByRecursion P xs
all-from_times P [] each = tt
all-from_times P (x ∷ xs) each =
    (each x (omega (arith, times-cons x x xs, one_same x x refl)), all-from_times P xs (λ k some. each k (omega (arith, some, times-cons k x xs))))

-- a number is the one element of a list or stands nowhere in it
pub alone : (k x : ℕ) → ((x ≡ k) × (times k (x ∷ []) ≡ 1)) ⊎ (times k (x ∷ []) ≡ 0)
alone k x =
    ⊎_elim (λ (e : x ≡ k). inl (e, omega (arith, times-cons k x [], one_same x k e)))
    (λ (n : x ≡ k → ⊥). inr (omega (arith, times-cons k x [], one_other x k n)))
    (cases_eq x k)

-- what holds of all numbers of a list holds of each that stands there
pub times_of_all : (P : ℕ → Type 0) (xs : List ℕ) → AllByRecursion P xs → (k : ℕ) → 0 < times k xs → P k
times_of_all P [] h k some = absurd (omega (arith, some))
times_of_all P (x ∷ xs) h k some =
    ⊎_elim (λ (same : (x ≡ k) × (times k (x ∷ []) ≡ 1)). subst P same.0 h.0)
    (λ (other : times k (x ∷ []) ≡ 0). times_of_all P xs h.1 k (let e = times-append k (x ∷ []) xs in omega (arith, e, other, some)))
    (alone k x)

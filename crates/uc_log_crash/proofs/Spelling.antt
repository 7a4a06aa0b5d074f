-- The bytes of numbers, written and read.
use Rattle.std.proofs.Common.{◌≡◌, ◌≢◌, ℕ, zero, suc, ◌+◌, ◌-◌, ◌/◌, ◌%◌, ◌<◌, ◌≤◌, Bool, true, false, ltb, List, [], ◌∷◌, ◌++◌, length, refl, sym, ap, subst, ◌∙◌, append_assoc, le-ltb, arith}
use Rattle.std.specs.Prelude.{nat_lt, if◌then◌else◌}
use Rattle.uc_log_crash.specs.Marks.{bound_of, number_text}

-- a number that is written in more bytes than one
pub text_step : (more n : ℕ) → more ≢ 0 → 128 ≤ n → number_text more n ≡ (128 + n % 128) ∷ number_text (more - 1) (n / 128)
unfolding number_text
text_step zero n some high = absurd (some refl)
text_step (suc k) n some high =
    let less : suc k - 1 ≡ k = omega arith in
    let above : ltb n 128 ≡ false = le-ltb n 128 high in
    rw (above, less) refl

pub bound_down : (n more : ℕ) → more ≢ 0 → n < bound_of (1 + more) → n / 128 < bound_of (1 + (more - 1))
bound_down n zero some lt = absurd (some refl)
bound_down n (suc k) some lt =
    let up : 1 + suc k ≡ suc (suc k) = omega arith in
    let down : suc k ≡ 1 + (suc k - 1) = omega arith in
    let all : n < bound_of (suc (suc k)) = subst (λ (j : ℕ). n < bound_of j) up lt in
    subst (λ (j : ℕ). n / 128 < bound_of j) down (omega (arith, all))

pub text_after : (old pushed new : List ℕ) (byte : ℕ) (rest text : List ℕ) → pushed ≡ old ++ byte ∷ [] → text ≡ byte ∷ rest → new ≡ pushed ++ rest → new ≡ old ++ text
text_after old pushed new byte rest text push step rests =
    rests ∙ (ap (λ (bs : List ℕ). bs ++ rest) push ∙ (append_assoc old (byte ∷ []) rest ∙ ap (λ (bs : List ℕ). old ++ bs) (sym step)))

one_of : (b : Bool) (byte n : ℕ) (rest : List ℕ) (k : ℕ) → length rest ≤ suc k → length (if b then n ∷ [] else (byte ∷ rest)) ≤ suc (suc k)
one_of true byte n rest k le = omega arith
one_of false byte n rest k le = omega (arith, le)

pub text_short : (more n : ℕ) → length (number_text more n) ≤ suc more
unfolding number_text
text_short zero n = omega arith
text_short (suc k) n = one_of (nat_lt n 128) (128 + n % 128) n (number_text k (n / 128)) k (text_short k (n / 128))

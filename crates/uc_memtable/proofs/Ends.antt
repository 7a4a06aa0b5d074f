-- The newest place that passes a test.
use Rattle.std.proofs.Common.{◌≡◌, ℕ, zero, suc, ◌<◌, ◌≤◌, Bool, true, false, cond, refl, ap, sym, ◌∙◌, subst, arith, below_more}
use Rattle.uc_memtable.specs.Ends.{newest_end}

pub newest_end-yes : (test : ℕ → Bool) (n : ℕ) → test n ≡ true → newest_end test (suc n) ≡ suc n
newest_end-yes test n e = ap (λ (b : Bool). cond b (suc n) (newest_end test n)) e

pub newest_end-no : (test : ℕ → Bool) (n : ℕ) → test n ≡ false → newest_end test (suc n) ≡ newest_end test n
newest_end-no test n e = ap (λ (b : Bool). cond b (suc n) (newest_end test n)) e

le_step : (b : Bool) (n m : ℕ) → m ≤ n → cond b (suc n) m ≤ suc n
le_step true n m l = omega arith
le_step false n m l = omega arith

pub newest_end-le : (test : ℕ → Bool) (n : ℕ) → newest_end test n ≤ n
newest_end-le test zero = omega arith
newest_end-le test (suc n) = le_step (test n) n (newest_end test n) (newest_end-le test n)

-- tests that agree below `n`
pub newest_end-same : (f g : ℕ → Bool) (n : ℕ) → ((k : ℕ) → k < n → f k ≡ g k) → newest_end f n ≡ newest_end g n
newest_end-same f g zero h = refl
newest_end-same f g (suc n) h =
    let here : f n ≡ g n = h n (omega arith) in
    let before : newest_end f n ≡ newest_end g n = newest_end-same f g n (λ k l. h k (omega arith)) in
    ap (λ (b : Bool). cond b (suc n) (newest_end f n)) here ∙ ap (λ (m : ℕ). cond (g n) (suc n) m) before

-- the newest place of a stricter test is looked for from that of the other on
within_step : (f g : ℕ → Bool) (n : ℕ) (b c : Bool) → f n ≡ b → g n ≡ c → (g n ≡ true → f n ≡ true) → newest_end g n ≡ newest_end g (newest_end f n) → newest_end g (suc n) ≡ newest_end g (newest_end f (suc n))
within_step f g n true c e d h before = ap (newest_end g) (sym (newest_end-yes f n e))
within_step f g n false true e d h before = let passes : f n ≡ true = h d in absurd cc
within_step f g n false false e d h before = newest_end-no g n d ∙ before ∙ ap (newest_end g) (sym (newest_end-no f n e))

pub newest_end-within : (f g : ℕ → Bool) (n : ℕ) → ((k : ℕ) → g k ≡ true → f k ≡ true) → newest_end g n ≡ newest_end g (newest_end f n)
newest_end-within f g zero h = refl
newest_end-within f g (suc n) h = within_step f g n (f n) (g n) refl refl (h n) (newest_end-within f g n h)

pub newest_end-again : (f : ℕ → Bool) (n : ℕ) → newest_end f (newest_end f n) ≡ newest_end f n
newest_end-again f n = sym (newest_end-within f f n (λ k e. e))

passes_step : (b : Bool) (n m : ℕ) → m ≤ n → cond b (suc n) m ≡ suc n → b ≡ true
passes_step true n m l e = refl
passes_step false n m l e = absurd (omega arith)

-- the place before an end passes
pub end_passes : (f : ℕ → Bool) (n : ℕ) → newest_end f (suc n) ≡ suc n → f n ≡ true
end_passes f n e = passes_step (f n) n (newest_end f n) (newest_end-le f n) e

above_step : (f : ℕ → Bool) (n : ℕ) (b : Bool) → f n ≡ b → ((p : ℕ) → p < n → newest_end f n ≤ p → f p ≡ false) → (p : ℕ) → p < suc n → newest_end f (suc n) ≤ p → f p ≡ false
above_step f n true e before p l above =
    let end : newest_end f (suc n) ≡ suc n = newest_end-yes f n e in
    absurd (omega (arith, end, above, l))
above_step f n false e before p l above =
    let low : newest_end f n ≤ p = subst (λ (m : ℕ). m ≤ p) (newest_end-no f n e) above in
    below_more (λ (k : ℕ). newest_end f n ≤ k → f k ≡ false) n before (λ _. e) p (omega arith) low

-- no place from the end on passes
pub none_above : (f : ℕ → Bool) (n p : ℕ) → p < n → newest_end f n ≤ p → f p ≡ false
none_above f zero p l above = absurd (omega arith)
none_above f (suc n) p l above = above_step f n (f n) refl (none_above f n) p l above

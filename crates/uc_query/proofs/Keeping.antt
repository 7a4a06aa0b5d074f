-- Keeps, and the test of being one.
use Rattle.std.proofs.Common.{◌≡◌, ℕ, ◌<◌, Bool, true, false, ltb, List, Contains, refl, sym, ◌∙◌, arith}
use Rattle.std.proofs.lemmas.Bool.Decides.{nat_tests}
use Rattle.uc_claims.specs.Claims.{times}
use Rattle.uc_claims.proofs.Times.{list_any-times, times-from_Contains, Contains-from_times}
use Rattle.uc_query_read.specs.Answers.{is_protected}

some_above : (n : ℕ) → ltb 0 n ≡ true → 0 < n
some_above n e = grind (arith, nat_tests)

above_some : (n : ℕ) → 0 < n → true ≡ ltb 0 n
above_some n lt = grind (arith, nat_tests)

pub protected_is_kept : (seq : ℕ) (keeps : List ℕ) → is_protected keeps seq ≡ true → Contains keeps seq
protected_is_kept seq keeps e = Contains-from_times seq keeps (some_above (times seq keeps) (sym (list_any-times seq keeps) ∙ e))

pub kept_is_protected : (seq : ℕ) (keeps : List ℕ) → Contains keeps seq → is_protected keeps seq ≡ true
kept_is_protected seq keeps there = list_any-times seq keeps ∙ sym (above_some (times seq keeps) (times-from_Contains seq keeps there))

pub other_is_unprotected : (seq : ℕ) (keeps : List ℕ) → (Contains keeps seq → ⊥) → is_protected keeps seq ≡ false
other_is_unprotected seq keeps none = by_test (is_protected keeps seq) (λ e. protected_is_kept seq keeps e)
  where
    by_test : (b : Bool) → (b ≡ true → Contains keeps seq) → b ≡ false
    by_test true there = absurd (none (there refl))
    by_test false there = refl

-- Keeps that a compaction was made for.
use Rattle.std.proofs.Common.{◌≡◌, ℕ, ◌<◌, ◌≤◌, Bool, true, false, not, cond, eqb, ltb, ◌&&◌, List, [], ◌∷◌, ◌⊎◌, inl, inr, refl, sym, ap, ◌∙◌, lt-ltb, arith}
use Rattle.std.specs.Prelude.{◌↔◌, Some, None, Contains, IsTrue}
use Rattle.std.specs.List.{AllByRecursion, list_any}
use Rattle.std.proofs.lemmas.Bool.{cases_lt, false≢true}
use Rattle.std.proofs.lemmas.Bool.Decides.{nat_tests}
use Rattle.uc_claims.specs.Claims.{times}
use Rattle.uc_claims.proofs.Times.{times-from_Contains, Contains-from_times, list_any-times}
use Rattle.uc_version_state.specs.Installs.{Terms, KeepsKnown}
use Rattle.uc_version_state.specs.Refusals.{is_unknown, first_unknown}
use Rattle.uc_version_state.proofs.Once.{times_of_all}

-- where no keep is unknown, each below the inputs' greatest sequence is one that the compaction was made for
unknown_not : (t : Terms) (keep : ℕ) → is_unknown t keep ≡ false → keep < t.high → Contains t.keeps keep
unknown_not t keep e lt = by_tests (ltb keep t.high) (list_any (λ k. eqb k keep) t.keeps) refl refl e
  where
    there : (n : ℕ) → ltb 0 n ≡ true → 0 < n
    there n h = grind (arith, nat_tests)

    above : ltb keep t.high ≡ false → ⊥
    above h = let le : t.high ≤ keep = grind (arith, nat_tests) in omega (arith, le, lt)

    by_tests : (a b : Bool) → ltb keep t.high ≡ a → list_any (λ k. eqb k keep) t.keeps ≡ b → (a && not b) ≡ false → Contains t.keeps keep
    by_tests false b ea eb h = absurd (above ea)
    by_tests true false ea eb h = absurd cc
    by_tests true true ea eb h = Contains-from_times keep t.keeps (there (times keep t.keeps) (sym (list_any-times keep t.keeps) ∙ eb))

all_known : (t : Terms) (keeps : List ℕ) → first_unknown t keeps ≡ None → AllByRecursion (λ keep. keep < t.high → Contains t.keeps keep) keeps
all_known t [] e = tt
all_known t (keep ∷ keeps) e = by_test (is_unknown t keep) refl e (λ rest. all_known t keeps rest)
  where
    by_test : (b : Bool) → is_unknown t keep ≡ b → cond b (Some keep) (first_unknown t keeps) ≡ None →
        (first_unknown t keeps ≡ None → AllByRecursion (λ k. k < t.high → Contains t.keeps k) keeps) →
        AllByRecursion (λ k. k < t.high → Contains t.keeps k) (keep ∷ keeps)
    by_test true eb h later = absurd cc
    by_test false eb h later = ((λ lt. unknown_not t keep eb lt), later h)

pub none_unknown : (t : Terms) (keeps : List ℕ) → first_unknown t keeps ≡ None → KeepsKnown keeps t
none_unknown t keeps none = λ keep there lt.
    times_of_all (λ k. k < t.high → Contains t.keeps k) keeps (all_known t keeps none) keep (times-from_Contains keep keeps there) lt

-- a test of whether a keep is among others
pub any_if : (b : Bool) (keep : ℕ) (keeps : List ℕ) → IsTrue b ↔ Contains keeps keep → b ≡ list_any (λ k. eqb k keep) keeps
any_if b keep keeps says = by_cases b says (cases_lt 0 (times keep keeps)) ∙ sym (list_any-times keep keeps)
  where
    by_cases : (b : Bool) → IsTrue b ↔ Contains keeps keep → (0 < times keep keeps) ⊎ (times keep keeps ≤ 0) → b ≡ ltb 0 (times keep keeps)
    by_cases true says (inl some) = grind (arith, nat_tests)
    by_cases true says (inr none) = let there = times-from_Contains keep keeps (says.0 refl) in absurd (omega (arith, there, none))
    by_cases false says (inl some) = absurd (false≢true (says.1 (Contains-from_times keep keeps some)))
    by_cases false says (inr none) = grind (arith, nat_tests)

-- the same for a keep below the inputs' greatest sequence
pub unknown_if : (t : Terms) (keep : ℕ) (b : Bool) → keep < t.high → IsTrue b ↔ Contains t.keeps keep → not b ≡ is_unknown t keep
unknown_if t keep b lt says =
    ap not (any_if b keep t.keeps says) ∙ sym (ap (λ a. a && not (list_any (λ k. eqb k keep) t.keeps)) (lt-ltb keep t.high lt))

-- The least slot that is free.
use Rattle.std.proofs.Common.{◌≡◌, ℕ, zero, suc, ◌+◌, ◌<◌, ◌≤◌, Bool, true, false, cond, leb, eqb, ltb, List, [], ◌∷◌, Contains, length, refl, sym, ap, ◌∙◌, ⊎_elim, arith}
use Rattle.std.specs.List.{list_any, count_by}
use Rattle.std.proofs.lemmas.Bool.{cases_eq}
use Rattle.std.proofs.lemmas.Bool.Decides.{nat_tests}
use Rattle.std.proofs.lemmas.List.Sums.{count_by-le-length, sum_by-cons}
use Rattle.uc_claims.specs.Claims.{times}
use Rattle.uc_claims.proofs.Times.{times-cons, list_any-times, times-from_Contains, Contains-from_times}
use Rattle.uc_version_state.specs.Flushes.{free_from, least_free}

-- how many slots are at or above one
abbrev from : ℕ → List ℕ → ℕ
from slot slots = count_by (λ s. leb slot s) slots

none_above : (n : ℕ) → n ≤ 0 → ltb 0 n ≡ false
none_above n le = grind (arith, nat_tests)

some_above : (n : ℕ) → ltb 0 n ≡ true → 0 < n
some_above n e = grind (arith, nat_tests)

-- a slot stands at itself or above, and nothing else stands between it and the next
one_up : (slot : ℕ) (slots : List ℕ) → from slot slots ≡ times slot slots + from (slot + 1) slots
one_up slot [] = refl
one_up slot (s ∷ ss) =
    let all = sum_by-cons (λ x. cond (leb slot x) 1 0) s ss in
    let here = times-cons slot s ss in
    let above = sum_by-cons (λ x. cond (leb (slot + 1) x) 1 0) s ss in
    let rest = one_up slot ss in
    let one = by_place (leb slot s) (eqb s slot) (leb (slot + 1) s) refl refl refl in
    omega (arith, all, here, above, rest, one)
  where
    by_place : (a b c : Bool) → leb slot s ≡ a → eqb s slot ≡ b → leb (slot + 1) s ≡ c → cond a 1 0 ≡ cond b 1 0 + cond c 1 0
    by_place true true true ea eb ec = absurd (grind (arith, nat_tests))
    by_place true true false ea eb ec = refl
    by_place true false true ea eb ec = refl
    by_place true false false ea eb ec = absurd (grind (arith, nat_tests))
    by_place false true true ea eb ec = absurd (grind (arith, nat_tests))
    by_place false true false ea eb ec = absurd (grind (arith, nat_tests))
    by_place false false true ea eb ec = absurd (grind (arith, nat_tests))
    by_place false false false ea eb ec = refl

next_is_free : (next slot : ℕ) (slots : List ℕ) (b : Bool) → list_any (λ s. eqb s slot) slots ≡ b → (0 < times slot slots → list_any (λ s. eqb s next) slots ≡ false) → list_any (λ s. eqb s (cond b next slot)) slots ≡ false
next_is_free next slot slots true taken rest = rest (some_above (times slot slots) (sym (list_any-times slot slots) ∙ taken))
next_is_free next slot slots false none rest = none

free_is_free : (more slot : ℕ) (slots : List ℕ) → from slot slots ≤ more → list_any (λ s. eqb s (free_from more slot slots)) slots ≡ false
free_is_free zero slot slots le =
    let up = one_up slot slots in
    list_any-times slot slots ∙ none_above (times slot slots) (omega (arith, le, up))
free_is_free (suc more) slot slots le =
    next_is_free (free_from more (slot + 1) slots) slot slots (list_any (λ s. eqb s slot) slots) refl
    (λ some. free_is_free more (slot + 1) slots (let up = one_up slot slots in omega (arith, le, up, some)))

free_within : (more slot : ℕ) (slots : List ℕ) → free_from more slot slots ≤ slot + more
free_within zero slot slots = omega arith
free_within (suc more) slot slots = by_test (list_any (λ s. eqb s slot) slots) (free_within more (slot + 1) slots)
  where
    by_test : (b : Bool) → free_from more (slot + 1) slots ≤ slot + 1 + more → cond b (free_from more (slot + 1) slots) slot ≤ slot + suc more
    by_test true le = omega (arith, le)
    by_test false le = omega arith

-- those before it are taken
next_taken : (next slot : ℕ) (slots : List ℕ) (other : ℕ) (b : Bool) → list_any (λ s. eqb s slot) slots ≡ b → slot ≤ other → (slot + 1 ≤ other → other < next → list_any (λ s. eqb s other) slots ≡ true) → other < cond b next slot → list_any (λ s. eqb s other) slots ≡ true
next_taken next slot slots other true taken le rest below =
    ⊎_elim (λ (e : other ≡ slot). ap (λ n. list_any (λ s. eqb s n) slots) e ∙ taken) (λ (ne : other ≡ slot → ⊥). rest (omega (arith, le, ne)) below) (cases_eq other slot)
next_taken next slot slots other false none le rest below = absurd (omega (arith, le, below))

all_taken : (more slot : ℕ) (slots : List ℕ) (other : ℕ) → slot ≤ other → other < free_from more slot slots → list_any (λ s. eqb s other) slots ≡ true
all_taken zero slot slots other le lt = absurd (omega (arith, le, lt))
all_taken (suc more) slot slots other le lt =
    next_taken (free_from more (slot + 1) slots) slot slots other (list_any (λ s. eqb s slot) slots) refl le (λ up below. all_taken more (slot + 1) slots other up below) lt

pub least_is_free : (slots : List ℕ) → list_any (λ s. eqb s (least_free slots)) slots ≡ false
least_is_free slots = free_is_free (length slots) 0 slots (count_by-le-length (λ s. leb 0 s) slots)

pub least_within : (slots : List ℕ) → least_free slots ≤ length slots
least_within slots = let le = free_within (length slots) 0 slots in omega (arith, le)

least_above_taken : (slots : List ℕ) (other : ℕ) → other < least_free slots → list_any (λ s. eqb s other) slots ≡ true
least_above_taken slots other lt = all_taken (length slots) 0 slots other (omega arith) lt

pub not_there : (slots : List ℕ) → Contains slots (least_free slots) → ⊥
not_there slots there =
    let some = times-from_Contains (least_free slots) slots there in
    let none = sym (list_any-times (least_free slots) slots) ∙ least_is_free slots in
    absurd (grind (arith, nat_tests))

pub is_there : (slots : List ℕ) (slot : ℕ) → slot < least_free slots → Contains slots slot
is_there slots slot lt =
    Contains-from_times slot slots (some_above (times slot slots) (sym (list_any-times slot slots) ∙ least_above_taken slots slot lt))

-- Unclaimed runs at the head of some.
use Rattle.std.proofs.Common.{◌≡◌, ℕ, zero, suc, ◌+◌, ◌<◌, ◌≤◌, not, Bool, true, false, cond, List, [], ◌∷◌, length, take, drop, get_or, refl, sym, ap, ◌∙◌, arith}
use Rattle.std.specs.Prelude.{◌&&◌}
use Rattle.std.proofs.lemmas.List.{drop_more}
use Rattle.uc_version_state.specs.declared.candidate.Candidate.{Candidate}
use Rattle.uc_version_state.specs.Picks.{are_unclaimed, unclaimed}

abbrev counted : Bool → List Candidate → ℕ
counted b runs = cond b 0 (suc (unclaimed runs))

taken_by : (r : Candidate) (runs : List Candidate) (n : ℕ) (b : Bool) → r.claimed ≡ b → suc n ≤ counted b runs → (n ≤ unclaimed runs → are_unclaimed (take n runs) ≡ true) → are_unclaimed (take (suc n) (r ∷ runs)) ≡ true
taken_by r runs n true e l rest = absurd (omega (arith, l))
taken_by r runs n false e l rest = ap (λ c. not c && are_unclaimed (take n runs)) e ∙ rest (omega (arith, l))

-- the first n of them aren't claimed, if at least n are unclaimed in front
pub taken : (runs : List Candidate) (n : ℕ) → n ≤ unclaimed runs → are_unclaimed (take n runs) ≡ true
taken runs zero l = refl
taken [] (suc n) l = refl
taken (r ∷ runs) (suc n) l = taken_by r runs n r.claimed refl l (taken runs n)

there_by : (runs : List Candidate) (b : Bool) → unclaimed runs ≤ length runs → counted b runs ≤ suc (length runs)
there_by runs true l = omega arith
there_by runs false l = omega (arith, l)

pub there : (runs : List Candidate) → unclaimed runs ≤ length runs
there [] = omega arith
there (r ∷ runs) = there_by runs r.claimed (there runs)

-- an unclaimed run in front makes one more
pub one_more : (r : Candidate) (runs : List Candidate) → r.claimed ≡ false → unclaimed (r ∷ runs) ≡ suc (unclaimed runs)
one_more r runs e = ap (λ b. counted b runs) e

here : Candidate
here = record { size = 0; claimed = false }

one_more_at : (runs : List Candidate) (k : ℕ) (d : Candidate) → k < length runs → (get_or runs k d).claimed ≡ false → unclaimed (drop k runs) ≡ suc (unclaimed (drop (k + 1) runs))
one_more_at runs k d l e = ap unclaimed (drop_more runs k d l) ∙ one_more (get_or runs k d) (drop (k + 1) runs) e

-- in front of the first place with two unclaimed neighbours stands a claimed run
pub claimed_in_front : (runs : List Candidate) (place : ℕ) (d : Candidate) → suc place < length runs → 2 ≤ unclaimed (drop (suc place) runs) → unclaimed (drop place runs) < 2 → (get_or runs place d).claimed ≡ true
claimed_in_front runs place d l two few = by (get_or runs place d).claimed refl
  where
    by : (b : Bool) → (get_or runs place d).claimed ≡ b → b ≡ true
    by true e = refl
    by false e =
        let next : suc place ≡ place + 1 = omega arith in
        let more : unclaimed (drop place runs) ≡ suc (unclaimed (drop (suc place) runs)) = one_more_at runs place d (omega (arith, l)) e ∙ ap (λ i. suc (unclaimed (drop i runs))) (sym next) in
        absurd (omega (arith, more, two, few))

-- The number of times that a slot is held, by all compactors together.
use Rattle.std.proofs.Common.{◌≡◌, ◌≢◌, ℕ, ◌+◌, ◌<◌, ◌≤◌, List, ◌⊎◌, inl, inr, length, get_or, set, ap, arith}
use Rattle.std.specs.List.{sum_by}
use Rattle.std.proofs.lemmas.Bool.{cases_lt}
use Rattle.std.proofs.lemmas.List.{get_or_past, get_or-set_other}
use Rattle.std.proofs.lemmas.List.Sums.{sum_by-set}
use Rattle.uc_claims.specs.Claims.{times}
use Rattle.uc_version_state.specs.Machine.{Phase, Idle, slots_held}

abbrev pub held_times : ℕ → Phase → ℕ
held_times k p = times k (slots_held p)

abbrev pub all_times : ℕ → List Phase → ℕ
all_times k phases = sum_by (held_times k) phases

module _ (k : ℕ) (phases : List Phase) where
  pub one_of : (c : ℕ) → held_times k (get_or phases c Idle) ≤ all_times k phases
  one_of c = by_place (cases_lt c (length phases))
    where
      by_place : (c < length phases) ⊎ (length phases ≤ c) → held_times k (get_or phases c Idle) ≤ all_times k phases
      by_place (inl lt) = let e = sum_by-set (held_times k) phases c Idle Idle lt in omega (arith, e)
      by_place (inr le) = let e : held_times k (get_or phases c Idle) ≡ 0 = ap (held_times k) (get_or_past phases c Idle le) in omega (arith, e)

pub two_of : (k : ℕ) (phases : List Phase) (c d : ℕ) → d ≢ c → held_times k (get_or phases c Idle) + held_times k (get_or phases d Idle) ≤ all_times k phases
two_of k phases c d other = by_place (cases_lt c (length phases))
  where
    by_place : (c < length phases) ⊎ (length phases ≤ c) → held_times k (get_or phases c Idle) + held_times k (get_or phases d Idle) ≤ all_times k phases
    by_place (inl lt) =
        let e = sum_by-set (held_times k) phases c Idle Idle lt in
        let rest = one_of k (set phases c Idle) d in
        let same : held_times k (get_or (set phases c Idle) d Idle) ≡ held_times k (get_or phases d Idle) = ap (held_times k) (get_or-set_other phases c d Idle Idle other) in
        omega (arith, e, rest, same)
    by_place (inr le) =
        let e : held_times k (get_or phases c Idle) ≡ 0 = ap (held_times k) (get_or_past phases c Idle le) in
        let rest = one_of k phases d in
        omega (arith, e, rest)

-- The result of a fold of totals.
use Rattle.std.proofs.Common.{◌≡◌, ℕ, ◌-◌, ◌^◌, ◌≤◌, min, List, [], ◌∷◌, fold, sum_by, arith}
use Rattle.std.specs.List.{AllByRecursion}
use Rattle.std.proofs.lemmas.List.Sums.{sum_by-cons}
use Rattle.uc_fold.specs.declared.totals.Totals.{Totals}
use Rattle.uc_fold.specs.Adding.{nothing, added, held_sum, AddsAlone, IsHeldSum}

-- a place of totals, where it adds like the whole
module _ (place : Totals → ℕ) (adds : (a b : Totals) → place (added a b) ≡ held_sum (place a) (place b)) where
  -- a fold that starts from totals in range is in range
  from_totals : (first : Totals) (parts : List Totals) → place first ≤ 2 ^ 64 - 1
      → place (fold added first parts) ≡ held_sum (place first) (sum_by place parts)
  from_totals first [] h = omega arith
  from_totals first (t ∷ ts) h =
      let one = adds first t in
      let rest = from_totals (added first t) ts (omega arith) in
      omega (arith, rest, one, sum_by-cons place t ts)

  -- a fold from zero is the sum, held
  pub total : (zero : Totals) (parts : List Totals) → place zero ≡ 0 → place (fold added zero parts) ≡ min (sum_by place parts) (2 ^ 64 - 1)
  total zero parts h = omega (arith, from_totals zero parts (omega arith))

-- and so is each of several places
pub totals : (places : List (Totals → ℕ)) → AllByRecursion AddsAlone places → (parts : List Totals)
    → AllByRecursion (IsHeldSum parts (fold added nothing parts)) places
totals [] h parts = tt
totals (place ∷ rest) h parts = (total place h.0.1 nothing parts h.0.0, totals rest h.1 parts)

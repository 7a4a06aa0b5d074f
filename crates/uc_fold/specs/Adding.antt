-- Totals, added field by field. Each sum is at most 2^64 - 1.
use Rattle.std.specs.Prelude.{◌≡◌, ℕ, ◌+◌, ◌-◌, ◌^◌, ◌<◌, min, List, [], ◌∷◌, sum_by}
use Rattle.std.specs.List.{AllByRecursion}
use Rattle.std.proofs.Common.{arith, refl}
use Rattle.uc_fold.specs.declared.totals.Totals.{Totals}
use Rattle.uc_fold.specs.Joining.{IsLawful}

-- a sum, at most 2^64 - 1
abbrev pub held_sum : ℕ → ℕ → ℕ
held_sum a b = min (a + b) (2 ^ 64 - 1)

-- zero of each
abbrev pub nothing : Totals
nothing = record { points = 0; fragments = 0; size = 0 }

-- the sums of both
abbrev pub added : Totals → Totals → Totals
added a b = record {
  points = held_sum a.points b.points;
  fragments = held_sum a.fragments b.fragments;
  size = held_sum a.size b.size;
}

-- each number has 64 bits
abbrev pub IsHeld : Totals → Type 0
IsHeld t = (t.points < 2 ^ 64) × (t.fragments < 2 ^ 64) × (t.size < 2 ^ 64)

-- the places of totals
abbrev pub places : List (Totals → ℕ)
places = (λ t. t.points) ∷ (λ t. t.fragments) ∷ (λ t. t.size) ∷ []

-- in this place a whole has the sum of the parts, but at most 2^64 - 1
abbrev pub IsHeldSum : List Totals → Totals → (Totals → ℕ) → Type 0
IsHeldSum parts whole place = place whole ≡ min (sum_by place parts) (2 ^ 64 - 1)

-- a place that is added independently, from zero
abbrev pub AddsAlone : (Totals → ℕ) → Type 0
AddsAlone place = (place nothing ≡ 0) × ((a b : Totals) → place (added a b) ≡ held_sum (place a) (place b))

-- each place is
pub places_add : AllByRecursion AddsAlone places
places_add = ((refl, λ a b. refl), ((refl, λ a b. refl), ((refl, λ a b. refl), tt)))

-- totals of three numbers
abbrev totals : ℕ → ℕ → ℕ → Totals
totals p f s = record { points = p; fragments = f; size = s }

-- equal field by field
same : (p q f g s t : ℕ) → p ≡ q → f ≡ g → s ≡ t → totals p f s ≡ totals q g t
same p q f g s t a b c = λ i. totals (a i) (b i) (c i)

-- the laws of joining
pub adding_lawful : IsLawful IsHeld nothing added
adding_lawful = record {
  unit_fits = (omega arith, omega arith, omega arith);
  join_fits = λ a b. (omega arith, omega arith, omega arith);
  left_unit = λ a h. same _ _ _ _ _ _ (omega (arith, h.0)) (omega (arith, h.1)) (omega (arith, h.2));
  right_unit = λ a h. same _ _ _ _ _ _ (omega (arith, h.0)) (omega (arith, h.1)) (omega (arith, h.2));
  assoc = λ a b c. same _ _ _ _ _ _ (omega arith) (omega arith) (omega arith);
}

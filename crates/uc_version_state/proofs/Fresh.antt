-- A number above all others isn't among them.
use Rattle.std.proofs.Common.{◌≡◌, ℕ, ◌<◌, false, eqb, ◌||◌, List, [], ◌∷◌, refl, ap, ◌∙◌, ne_eqb, arith}
use Rattle.std.specs.List.{AllByRecursion, list_any}

pub fresh : (x : ℕ) (xs : List ℕ) → AllByRecursion (λ y. y < x) xs → list_any (λ y. eqb y x) xs ≡ false
fresh x [] h = refl
fresh x (y ∷ ys) h = ap (λ b. b || list_any (λ z. eqb z x) ys) (ne_eqb y x (λ e. let lt : y < x = h.0 in absurd (omega (arith, lt, e)))) ∙ fresh x ys h.1

-- A walk that passes rows.
use Rattle.std.proofs.Common.{◌≡◌, ℕ, zero, suc, ◌+◌, List, [], ◌∷◌, drop, Option, Some, None, option_map, Bor, refl, sym, ap, ◌∙◌}
use Rattle.std.specs.Prelude.{MatchOption}
use Rattle.std.specs.List.{slice_get}
use Rattle.std.proofs.lemmas.List.{drop-drop}
use Rattle.uc_rows.specs.RowBytes.{Row}

abbrev Lent : Type 0
Lent = Bor (List ℕ) × Bor (List ℕ)

abbrev pub row_of : Lent → Row
row_of row = (row.0.now, row.1.now)

-- what a step of a walk does
abbrev pub Steps : List Row → Option Lent → List Row → Type 0
Steps old next new = MatchOption next ((old ≡ []) × (new ≡ [])) (λ row. old ≡ row_of row ∷ new)

pub behind_step : (old new : List Row) (next : Option Lent) → Steps old next new → new ≡ drop 1 old
behind_step old new None steps = steps.1 ∙ ap (λ (rows : List Row). drop 1 rows) (sym steps.0)
behind_step old new (Some row) steps = ap (λ (rows : List Row). drop 1 rows) (sym steps)

pub first_of_step : (old new : List Row) (next : Option Lent) → Steps old next new → option_map row_of next ≡ slice_get old 0
first_of_step old new None steps = ap (λ (rows : List Row). slice_get rows 0) (sym steps.0)
first_of_step old new (Some row) steps = ap (λ (rows : List Row). slice_get rows 0) (sym steps)

pub behind_more : (all old new : List Row) (count : ℕ) (next : Option Lent) → old ≡ drop count all → Steps old next new → new ≡ drop (count + 1) all
behind_more all old new count next is steps =
    behind_step old new next steps ∙ ap (λ (rows : List Row). drop 1 rows) is ∙ drop-drop 1 count all

pub first_behind : (all : List Row) (count : ℕ) → slice_get (drop count all) 0 ≡ slice_get all count
first_behind all zero = refl
first_behind [] (suc count) = refl
first_behind (row ∷ all) (suc count) = first_behind all count

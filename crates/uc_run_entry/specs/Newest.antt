-- The newest sequence at or below a number.
use Rattle.std.specs.Prelude.{ℕ, ◌≤◌, Option, Some, None, List, [], ◌∷◌, ⊤, filter, nat_le, max}
use Rattle.std.specs.List.{AllByRecursion, slice_get}

-- no sequence is above one before it
abbrev pub Descends : List ℕ → Type 0
Descends [] = ⊤
Descends (seq ∷ seqs) = AllByRecursion (λ other. other ≤ seq) seqs × Descends seqs

-- the first of falling sequences that isn't above a number
abbrev pub newest_at_or_below : ℕ → List ℕ → Option ℕ
newest_at_or_below at seqs = slice_get (filter (λ seq. nat_le seq at) seqs) 0

-- the greater of two sequences, if there are two; else the one there is
abbrev pub newer : Option ℕ → Option ℕ → Option ℕ
newer None b = b
newer (Some x) None = Some x
newer (Some x) (Some y) = Some (max x y)

-- the newest at or below a number of what several lists have
abbrev pub newest_of_all : ℕ → List (List ℕ) → Option ℕ
newest_of_all at [] = None
newest_of_all at (seqs ∷ lists) = newer (newest_at_or_below at seqs) (newest_of_all at lists)

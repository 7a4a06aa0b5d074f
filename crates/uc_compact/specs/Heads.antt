-- The first points of lists.
use Rattle.std.specs.Prelude.{◌≡◌, ℕ, suc, true, List, [], ◌∷◌, Option, Some, None, ⊤, if◌then◌else◌}
use Rattle.std.specs.List.{AllByRecursion}
use Rattle.std.specs.Ordering.{is_le}
use Rattle.uc_bytes.specs.Bytes.{bytes_cmp, same_bytes}
use Rattle.uc_run_entry.specs.declared.entry.Entry.{Entry}

-- the key of the first point
abbrev pub first_key : List Entry → Option (List ℕ)
first_key [] = None
first_key (p ∷ ps) = Some p.key

-- how many of the first points are of the key
abbrev pub first_named : List ℕ → List Entry → ℕ
first_named key [] = 0
first_named key (p ∷ ps) = if same_bytes p.key key then suc (first_named key ps) else 0

-- no key of a first point is below the key
abbrev pub IsFrom : List ℕ → List Entry → Type 0
IsFrom key [] = ⊤
IsFrom key (p ∷ ps) = is_le (bytes_cmp key p.key) ≡ true

-- the first point isn't of the key
abbrev pub IsOther : List ℕ → List Entry → Type 0
IsOther key [] = ⊤
IsOther key (p ∷ ps) = p.key ≡ key → ⊥

-- the least key of the lists' first points; none if no list has a point
abbrev pub IsLeast : List (List Entry) → Option (List ℕ) → Type 0
IsLeast lists None = AllByRecursion (λ ps. ps ≡ []) lists
IsLeast lists (Some key) = AllByRecursion (IsFrom key) lists × (AllByRecursion (IsOther key) lists → ⊥)

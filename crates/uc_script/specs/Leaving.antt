-- Items that are left at the end of a list.
use Rattle.std.specs.Prelude.{Bool, false, ◌&&◌, ◌||◌, not, List, [], ◌∷◌}
use Rattle.std.specs.List.{list_any}

-- Whether an item passes the first test, and none after it the second.
abbrev pub leaves : {A : Type 0} → (A → Bool) → (A → Bool) → List A → Bool
leaves gives takes [] = false
leaves gives takes (item ∷ items) = (gives item && not (list_any takes items)) || leaves gives takes items

-- Lists that follow one another in one list of items.
use Rattle.std.specs.Prelude.{◌≡◌, ℕ, ◌-◌, ◌≤◌, List, [], ◌∷◌, take, drop}

-- items cut at places, if the first of them is at `from`
abbrev pub cut_from : {T : Type 0} → ℕ → List ℕ → List T → List (List T)
cut_from from [] items = []
cut_from from (end ∷ ends) items = take (end - from) items ∷ cut_from end ends (drop (end - from) items)

-- the lists that begin at places; at the last one they end
abbrev pub cut : {T : Type 0} → List ℕ → List T → List (List T)
cut [] items = []
cut (from ∷ ends) items = cut_from from ends items

-- each place isn't before the one before it, and the last is at the end
abbrev pub AreEnds : ℕ → List ℕ → ℕ → Type 0
AreEnds from [] end = from ≡ end
AreEnds from (next ∷ ends) end = (from ≤ next) × AreEnds next ends end

-- the places at which lists begin, and the end of the last of them
abbrev pub AreStarts : List ℕ → ℕ → Type 0
AreStarts [] end = ⊥
AreStarts (from ∷ ends) end = (from ≡ 0) × AreEnds from ends end

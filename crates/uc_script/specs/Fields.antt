-- The fields of a line as the reader holds them.
use Rattle.std.specs.Prelude.{◌≡◌, ℕ, ◌<◌, List, [], ◌∷◌, length}
use Rattle.uc_script.specs.declared.lines.Fields.{Fields}
use Rattle.uc_script.specs.declared.lines.Fields.TheVariants.{One, Two, Three, Four, Five, More}

-- Holds these fields, or there are more than five.
abbrev pub Holds : Fields → List (List ℕ) → Type 0
Holds (One a) fields = fields ≡ a.now ∷ []
Holds (Two a b) fields = fields ≡ a.now ∷ b.now ∷ []
Holds (Three a b c) fields = fields ≡ a.now ∷ b.now ∷ c.now ∷ []
Holds (Four a b c d) fields = fields ≡ a.now ∷ b.now ∷ c.now ∷ d.now ∷ []
Holds (Five a b c d e) fields = fields ≡ a.now ∷ b.now ∷ c.now ∷ d.now ∷ e.now ∷ []
Holds More fields = 5 < length fields

-- The parts of an operand from its end, and then from its first part.
use Rattle.std.specs.Prelude.{ℕ, List, [], ◌∷◌, take, Option, Some, None}
use Rattle.uc_mixed.specs.Parts.{Cut, cut}
use Rattle.uc_mixed.specs.Mixing.{applied}

abbrev pub stepped : Option Cut → Option (List ℕ) → Option (List ℕ)
stepped None value = value
stepped (Some c) value = Some (applied c.kind c.payload value)

-- the value after the parts that end at these places, in turn
abbrev pub finished : List ℕ → List ℕ → Option (List ℕ) → Option (List ℕ)
finished operand [] value = value
finished operand (end ∷ ends) value = finished operand ends (stepped (cut (take end operand)) value)

-- Places before and after a change.
use Rattle.std.proofs.Common.{List, [], ◌∷◌}
use Rattle.std.specs.List.{AllZip}

module _ {X : Type 0} (R : X → X → Type 0) (same : (x : X) → R x x) where
  pub all_same : (xs : List X) → AllZip R xs xs
  all_same [] = tt
  all_same (x ∷ xs) = (same x, all_same xs)

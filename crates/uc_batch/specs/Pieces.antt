-- Bytes in pieces.
use Rattle.std.specs.Prelude.{◌≡◌, ℕ, ◌<◌, ◌^◌, List, [], ◌∷◌, ◌++◌, length}
use Rattle.std.specs.Global.{Vec}

-- the bytes of all pieces
abbrev pub bytes_of : List (Vec ℕ) → List ℕ
bytes_of [] = []
bytes_of (piece ∷ pieces) = piece.items ++ bytes_of pieces

-- how many bytes the first piece has: 0 if there are none
abbrev pub size_of_first : List (Vec ℕ) → ℕ
size_of_first [] = 0
size_of_first (piece ∷ pieces) = length piece.items

-- no piece is empty
abbrev pub AreFilled : List (Vec ℕ) → Type 0
AreFilled [] = Unit {0}
AreFilled (piece ∷ pieces) = (0 < length piece.items) × AreFilled pieces

-- the pieces have `size` bytes together, and none is empty
pub record ArePieces (pieces : List (Vec ℕ)) (size : ℕ) : Type 0 where
  pub filled : AreFilled pieces
  pub counted : size ≡ length (bytes_of pieces)
  pub small : size < 2 ^ 63

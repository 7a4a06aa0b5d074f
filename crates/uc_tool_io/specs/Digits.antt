-- How bytes are printed.
use Rattle.std.specs.Prelude.{ℕ, List, [], ◌∷◌, codes}
use Rattle.hex.specs.Hex.{encode_lower}

-- `.` for no bytes, else two hexadecimal digits in lower case for each.
abbrev pub hex_text : List ℕ → List ℕ
hex_text [] = codes "."
hex_text (byte ∷ rest) = encode_lower (byte ∷ rest)

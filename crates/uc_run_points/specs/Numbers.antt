-- A number in one to nine bytes. The first byte determines the number of the others, as in SQLite4's varint.
use Rattle.std.specs.Prelude.{ℕ, ◌+◌, ◌-◌, ◌^◌, List, [], ◌∷◌, take, drop, nat_lt, if◌then◌else◌}
use Rattle.std.specs.Int.{w64, to_le_bytes, from_le_bytes}

-- the number of bytes of a number below 2 ^ 64, without leading zeros
unfoldable pub width_of : ℕ → ℕ
width_of n =
    if nat_lt n (2 ^ 8) then 1 else
    if nat_lt n (2 ^ 16) then 2 else
    if nat_lt n (2 ^ 24) then 3 else
    if nat_lt n (2 ^ 32) then 4 else
    if nat_lt n (2 ^ 40) then 5 else
    if nat_lt n (2 ^ 48) then 6 else
    if nat_lt n (2 ^ 56) then 7 else 8

-- A number below 248 is one byte. A larger one is 247 plus its width, and then its bytes, lowest first.
unfoldable pub number_text : ℕ → List ℕ
number_text n = if nat_lt n 248 then n ∷ [] else (247 + width_of n) ∷ take (width_of n) (to_le_bytes w64 n)

-- the number at the front, and the bytes after it; missing bytes count as 0
unfoldable pub number_from : List ℕ → ℕ × List ℕ
number_from [] = (0, [])
number_from (b ∷ rest) = if nat_lt b 248 then (b, rest) else (from_le_bytes w64 (take (b - 247) rest), drop (b - 247) rest)

-- Lists of bits, and the numbers that they write.
use Rattle.std.specs.Prelude.{ℕ, zero, suc, ◌+◌, ◌*◌, ◌/◌, ◌%◌, Bool, false, not, List, [], ◌∷◌, map, flat_map, replicate, ◌==◌, if◌then◌else◌}

-- the lowest `count` bits of a number, the lowest first
unfoldable pub lowest_first : ℕ → ℕ → List Bool
lowest_first zero n = []
lowest_first (suc count) n = (n % 2 == 1) ∷ lowest_first count (n / 2)

-- the number that bits write, the lowest first
unfoldable pub number_of : List Bool → ℕ
number_of [] = 0
number_of (bit ∷ bits) = (if bit then 1 else 0) + 2 * number_of bits

-- the bits of a message in the order of the reflected CRCs: byte by byte, the lowest bit of each first. If an element
-- is no byte, its low eight bits count
unfoldable pub bits_of : List ℕ → List Bool
bits_of bytes = flat_map (lowest_first 8) bytes

-- each bit flipped
unfoldable pub inverted : List Bool → List Bool
inverted bits = map not bits

unfoldable pub zeros : ℕ → List Bool
zeros count = replicate count false

-- Numbers of a fixed size, lowest byte first.
use Rattle.std.specs.Prelude.{ℕ, List, take}
use Rattle.std.specs.Int.{w32, w64, to_le_bytes, from_le_bytes}

-- in eight bytes
unfoldable pub word_text : ℕ → List ℕ
word_text n = to_le_bytes w64 n

-- in four
unfoldable pub half_text : ℕ → List ℕ
half_text n = to_le_bytes w32 n

-- the number in the first eight bytes
unfoldable pub word_of : List ℕ → ℕ
word_of bytes = from_le_bytes w64 (take 8 bytes)

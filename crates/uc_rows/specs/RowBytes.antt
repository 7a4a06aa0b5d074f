-- Rows as bytes: each row is its key and its value, each after its length.
use Rattle.std.specs.Prelude.{◌≡◌, ℕ, zero, suc, ◌<◌, ◌^◌, List, [], ◌∷◌, ◌++◌, length, take, drop}
use Rattle.std.specs.List.{AllByRecursion, flat_map}
use Rattle.std.specs.Int.{w64, to_le_bytes, from_le_bytes}

-- a key and its value
abbrev pub Row : Type 0
Row = List ℕ × List ℕ

-- a byte string after its length, 8 bytes, low byte first
abbrev pub text_bytes : List ℕ → List ℕ
text_bytes text = to_le_bytes w64 (length text) ++ text

abbrev pub row_bytes : Row → List ℕ
row_bytes row = text_bytes row.0 ++ text_bytes row.1

-- the concatenated bytes of rows
abbrev pub rows_bytes : List Row → List ℕ
rows_bytes rows = flat_map row_bytes rows

-- the byte string at the front, and the bytes after it
abbrev pub text_from : List ℕ → List ℕ × List ℕ
text_from bytes =
    let count = from_le_bytes w64 (take 8 bytes) in
    (take count (drop 8 bytes), drop count (drop 8 bytes))

-- the row at the front, and the bytes after it
unfoldable pub row_from : List ℕ → Row × List ℕ
row_from bytes =
    let key = text_from bytes in
    let value = text_from key.1 in
    ((key.0, value.0), value.1)

-- the first rows, as many as the number says
unfoldable pub rows_from : ℕ → List ℕ → List Row
rows_from zero bytes = []
rows_from (suc count) bytes = (row_from bytes).0 ∷ rows_from count (row_from bytes).1

-- its key and value have lengths that 8 bytes can encode
pub record Fits (row : Row) : Type 0 where
  pub key : length row.0 < 2 ^ 64
  pub value : length row.1 < 2 ^ 64

-- the bytes are those of `count` rows
pub record AreSpelled (count : ℕ) (bytes : List ℕ) : Type 0 where
  pub spelled : bytes ≡ rows_bytes (rows_from count bytes)
  pub fits : AllByRecursion Fits (rows_from count bytes)

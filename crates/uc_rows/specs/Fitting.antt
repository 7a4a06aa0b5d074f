-- The rows that fit into a buffer.
use Rattle.std.specs.Prelude.{◌≡◌, ◌⊎◌, ℕ, ◌+◌, ◌<◌, ◌≤◌, List, length, take}
use Rattle.uc_rows.specs.RowBytes.{Row, rows_bytes}

-- The first `count` rows fit the buffer, and no more do.
pub record AreFitting (rows : List Row) (room count : ℕ) : Type 0 where
  pub there : count ≤ length rows
  pub fit : length (rows_bytes (take count rows)) ≤ room
  pub most : (count ≡ length rows) ⊎ (room < length (rows_bytes (take (count + 1) rows)))

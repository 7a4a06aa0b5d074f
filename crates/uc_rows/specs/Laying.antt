-- Rows that are copied into a buffer, as far as they fit.
use Rattle.std.specs.Prelude.{◌≡◌, ℕ, ◌+◌, List, ◌++◌, length, take, drop}
use Rattle.uc_rows.specs.RowBytes.{Row, rows_bytes}
use Rattle.uc_rows.specs.Fitting.{AreFitting}
use Rattle.uc_rows.specs.declared.laying.Laid.{Laid}

-- the first of the values, as many as the buffer holds, and the rest of the buffer as it was
abbrev pub filled : List ℕ → List ℕ → List ℕ
filled values room = take (length room) values ++ drop (length values) room

-- The rows that fit the buffer are in it, and their number and the size of all rows are known.
pub record AreShown (rows : List Row) (room room' : List ℕ) (size count : ℕ) : Type 0 where
  pub fitting : AreFitting rows (length room) count
  pub written : room' ≡ filled (rows_bytes (take count rows)) room
  pub whole : size ≡ length (rows_bytes rows)

-- a buffer after bytes were copied to an offset of it
abbrev pub laid_at : ℕ → List ℕ → List ℕ → List ℕ
laid_at at part room = take at room ++ (part ++ drop (at + length part) room)

-- The rows that fit are in the buffer, and the numbers are those of the rows.
pub record AreLaid (rows : List Row) (room room' : List ℕ) (laid : Laid) : Type 0 where
  pub shown : AreShown rows room room' laid.size laid.fitting
  pub count : laid.rows ≡ length rows

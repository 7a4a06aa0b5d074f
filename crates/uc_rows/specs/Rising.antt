-- Rows: keys that rise, and their values.
use Rattle.std.specs.Prelude.{ℕ, Bool, ◌&&◌, List}
use Rattle.std.specs.List.Sorted.{IsStrictlySortedBy}
use Rattle.uc_bytes.specs.Bytes.{bytes_cmp, same_bytes}
use lib.Pointwise.{pointwise}

-- the keys rise in byte order, so each occurs once
abbrev pub KeysRise : List (List ℕ × List ℕ) → Type 0
KeysRise rows = IsStrictlySortedBy (λ row other. bytes_cmp row.0 other.0) rows

-- whether two lists of rows are equal
abbrev pub same_rows : List (List ℕ × List ℕ) → List (List ℕ × List ℕ) → Bool
same_rows = pointwise (λ row other. same_bytes row.0 other.0 && same_bytes row.1 other.1)

-- The order of byte strings: byte by byte, and a proper prefix comes first, as in LevelDB's `BytewiseComparator`.
use Rattle.std.specs.Prelude.{ℕ, Bool, List, nat_eq}
use Rattle.std.specs.declared.cmp.Ordering.{Ordering}
use Rattle.std.specs.Ordering.{nat_cmp}
use Rattle.std.specs.Cmp.Lexicographic.{slice_cmp}
use lib.Pointwise.{pointwise}

-- the order of two byte strings
abbrev pub bytes_cmp : List ℕ → List ℕ → Ordering
bytes_cmp = slice_cmp nat_cmp

-- true if two byte strings are equal
abbrev pub same_bytes : List ℕ → List ℕ → Bool
same_bytes = pointwise nat_eq

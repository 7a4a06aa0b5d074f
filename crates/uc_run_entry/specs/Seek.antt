-- Places among a run's points by key.
use Rattle.std.specs.Prelude.{ℕ, Bool, List, count_by, if◌then◌else◌}
use Rattle.std.specs.Ordering.{is_lt, is_le}
use Rattle.uc_bytes.specs.Bytes.{bytes_cmp}
use Rattle.uc_run_entry.specs.declared.entry.Entry.{Entry}

-- whether `key` lies before a search that starts at `low` (just above it if `strict`)
abbrev pub is_passed : List ℕ → Bool → List ℕ → Bool
is_passed low strict key = if strict then is_le (bytes_cmp key low) else is_lt (bytes_cmp key low)

-- how many points lie before the search
abbrev pub seek_place : List Entry → List ℕ → Bool → ℕ
seek_place points low strict = count_by (λ p. is_passed low strict p.key) points

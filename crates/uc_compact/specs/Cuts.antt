-- Points on both sides of a key.
use Rattle.std.specs.Prelude.{ℕ, Bool, List, not}
use Rattle.std.specs.Ordering.{is_lt}
use Rattle.uc_bytes.specs.Bytes.{bytes_cmp}
use Rattle.uc_run_entry.specs.declared.entry.Entry.{Entry}

-- whether the point's key is below the key
abbrev pub is_below : List ℕ → Entry → Bool
is_below key p = is_lt (bytes_cmp p.key key)

-- whether it is the key, or above it
abbrev pub is_from : List ℕ → Entry → Bool
is_from key p = not (is_lt (bytes_cmp p.key key))

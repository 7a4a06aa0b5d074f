-- Places among points.
use Rattle.std.specs.Prelude.{◌≡◌, ℕ, ◌-◌, Bool, true, ◌&&◌, List, Option, Some, None, length, drop, nat_lt}
use Rattle.std.specs.Ordering.{nat_cmp, ordering_then, is_lt}
use Rattle.uc_bytes.specs.Bytes.{bytes_cmp, same_bytes}
use Rattle.uc_run_entry.specs.declared.entry.Entry.{Entry}

-- how many points come before some of them, which are the last
abbrev pub place_of : List Entry → List Entry → ℕ
place_of points rest = length points - length rest

-- some points are the last of others
abbrev pub IsRest : List Entry → List Entry → Type 0
IsRest points rest = rest ≡ drop (place_of points rest) points

-- a point comes before those of the key at or below the sequence
abbrev pub is_newer : List ℕ → ℕ → Entry → Bool
is_newer key at p = is_lt (ordering_then (bytes_cmp p.key key) (nat_cmp at p.seq))

-- a sequence is above another, if there is one
abbrev pub is_above : Option ℕ → ℕ → Bool
is_above None seq = true
is_above (Some other) seq = nat_lt other seq

-- a point of the key that is above a sequence, if there is one
abbrev pub is_on : List ℕ → Option ℕ → Entry → Bool
is_on key other p = is_above other p.seq && same_bytes p.key key

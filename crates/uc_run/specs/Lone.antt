-- A put that is the only point of its key.
use Rattle.std.specs.Prelude.{ℕ, ◌-◌, Bool, false, not, ◌&&◌, List, [], ◌∷◌, Option, Some, None, nat_le, option_map, if◌then◌else◌}
use Rattle.uc_bytes.specs.Bytes.{same_bytes}
use Rattle.uc_run_entry.specs.declared.entry.Entry.{Entry}
use Rattle.uc_run_entry.specs.declared.entry.What.{What}
use Rattle.uc_run_entry.specs.declared.entry.What.TheVariants.{Put, Delete, Merge}
use Rattle.uc_run.specs.BackCursors.{point_before}
use Rattle.uc_run.specs.Heads.{first_key}

-- a key is another, if there is one
abbrev pub is_same : List ℕ → Option (List ℕ) → Bool
is_same key None = false
is_same key (Some other) = same_bytes other key

abbrev pub value_put : What → Option (List ℕ)
value_put (Put value) = Some value
value_put Delete = None
value_put (Merge operand) = None

-- the value that the first of some points puts, if it is at or below a sequence, and the next point is of another key
abbrev pub lone_put : List Entry → ℕ → Option (List ℕ)
lone_put [] at = None
lone_put (p ∷ ps) at = if nat_le p.seq at && not (is_same p.key (first_key ps)) then value_put p.what else None

abbrev pub by_last : List Entry → ℕ → ℕ → Option Entry → Option (List ℕ)
by_last points place at None = None
by_last points place at (Some p) =
    if nat_le p.seq at && not (is_same p.key (option_map (λ q. q.key) (point_before points (place - 1)))) then value_put p.what else None

-- the same of the point just before a place, where the point before that is of another key
abbrev pub lone_put_before : List Entry → ℕ → ℕ → Option (List ℕ)
lone_put_before points place at = by_last points place at (point_before points place)

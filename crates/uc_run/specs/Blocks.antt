-- Blocks of points.
use Rattle.std.specs.Prelude.{ℕ, ◌+◌, ◌*◌, ◌-◌, ◌/◌, List, Option, option_map, length}
use Rattle.std.specs.List.{slice_get}
use Rattle.uc_run_entry.specs.declared.entry.Entry.{Entry}

-- how many points each block has; the last may have fewer
abbrev pub block_points : ℕ
block_points = 4

-- how many blocks some points fill
abbrev pub blocks_of : List Entry → ℕ
blocks_of points = (length points + (block_points - 1)) / block_points

-- the key of the first point of a block
abbrev pub fence_of : List Entry → ℕ → Option (List ℕ)
fence_of points i = option_map (λ p. p.key) (slice_get points (block_points * i))

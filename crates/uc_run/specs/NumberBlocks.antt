-- Numbers in blocks, and the least number of each block.
use Rattle.std.specs.Prelude.{◌≡◌, ℕ, ◌+◌, ◌*◌, ◌-◌, ◌/◌, ◌^◌, ◌<◌, ◌≤◌, List, length, take, drop, slice_index_or}
use Rattle.std.specs.List.{All, Contains}

-- the least of some numbers; 2 ^ 64 - 1 if there are none
pub record IsLeastNumber (numbers : List ℕ) (least : ℕ) : Type 0 where
  pub lower : All (λ number. least ≤ number) numbers
  pub there : least < 2 ^ 64 - 1 → Contains numbers least

-- how many numbers a block has; the last may have fewer
abbrev pub block_numbers : ℕ
block_numbers = 16

-- how many blocks some numbers fill
abbrev pub blocks_of : List ℕ → ℕ
blocks_of numbers = (length numbers + (block_numbers - 1)) / block_numbers

-- the numbers of a block
abbrev pub numbers_in : List ℕ → ℕ → List ℕ
numbers_in numbers block = take block_numbers (drop (block_numbers * block) numbers)

-- the least number of each block
pub record AreLeasts (numbers leasts : List ℕ) : Type 0 where
  pub each : length leasts ≡ blocks_of numbers
  pub least : (block : ℕ) (d : ℕ) → block < length leasts → IsLeastNumber (numbers_in numbers block) (slice_index_or leasts block d)

-- The places of a log where a batch may begin after a fault: the place itself, after records whose lengths are right, and at the starts of
-- later blocks. No bytes of a value are such a place, unless a length before them is wrong.
use Rattle.std.specs.Prelude.{◌≡◌, ℕ, zero, suc, ◌+◌, ◌-◌, ◌*◌, ◌/◌, Bool, not, ◌&&◌, List, [], ◌∷◌, ◌++◌, length, drop, Option, Some, None, nat_le, ◌==◌, ◌⊎◌, if◌then◌else◌}
use Rattle.uc_logrec.specs.Format.{room, header_place, stored_length, stored_code}
use Rattle.uc_log_crash.specs.Marks.{Tells}

-- whether a header is at the front of these bytes, and its data and another header fit its block: zeros are no header
abbrev pub has_another : ℕ → List ℕ → Bool
has_another place rest = (nat_le 7 (length rest) && not (stored_code rest == 0 && stored_length rest == 0)) && nat_le (14 + stored_length rest) (room place)

-- the place after the record at a place, if it is in the same block
unfoldable pub next_place : List ℕ → ℕ → Option ℕ
next_place log place = if has_another place (drop place log) then Some (place + 7 + stored_length (drop place log)) else None

-- what comes from the next place on, if there is one
abbrev pub chained : (ℕ → List ℕ) → Option ℕ → List ℕ
chained go None = []
chained go (Some next) = go next

-- the places in the block of one, from it on, at most as many as the number says
unfoldable pub in_block : ℕ → List ℕ → ℕ → List ℕ
in_block zero log place = []
in_block (suc more) log place = place ∷ chained (in_block more log) (next_place log place)

-- a place takes seven bytes of its block, so there are enough
abbrev pub places_from : List ℕ → ℕ → List ℕ
places_from log place = in_block (room place) log place

-- those in `count` blocks, of which the first has this number
unfoldable pub in_blocks : ℕ → List ℕ → ℕ → List ℕ
in_blocks zero log block = []
in_blocks (suc count) log block = places_from log (32768 * block) ++ in_blocks count log (block + 1)

-- the number of blocks that bytes begin
abbrev pub block_count : List ℕ → ℕ
block_count log = (length log + 32767) / 32768

-- the places from an offset of a log on
abbrev pub all_places : List ℕ → ℕ → List ℕ
all_places log from =
    places_from log (header_place from) ++ in_blocks (block_count log - (header_place from / 32768 + 1)) log (header_place from / 32768 + 1)

-- the first of some places with a batch whose mark says that the log was durable beyond `end`
abbrev pub IsFirst : List ℕ → ℕ → ℕ → List ℕ → Option ℕ → Type 0
IsFirst log end last [] found = found ≡ None
IsFirst log end last (place ∷ places) found = (Tells log end last place × (found ≡ Some place)) ⊎ ((Tells log end last place → ⊥) × IsFirst log end last places found)

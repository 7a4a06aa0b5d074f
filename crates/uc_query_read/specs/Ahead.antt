-- The keys of points that are still ahead of a walk in their order.
use Rattle.std.specs.Prelude.{◌≡◌, ℕ, Bool, true, not, ◌&&◌, List, [], ◌∷◌, Option, Some, None, filter}
use Rattle.uc_run_entry.specs.declared.entry.Entry.{Entry}
use Rattle.uc_run_entry.specs.Seek.{is_passed}
use Rattle.uc_compact.specs.Groups.{keys_of}
use Rattle.uc_query_read.specs.Answers.{is_below}

-- a key at or above `low` (above it if `strict`), and below `high` if there is one
abbrev pub is_ahead : List ℕ → Bool → Option (List ℕ) → List ℕ → Bool
is_ahead low strict high key = not (is_passed low strict key) && is_below key high

-- the keys of points at or above `low` (above it if `strict`), and below `high` if there is one: in order, each once
abbrev pub keys_ahead : List Entry → List ℕ → Bool → Option (List ℕ) → List (List ℕ)
keys_ahead points low strict high = filter (is_ahead low strict high) (keys_of points)

-- what is ahead after a key was passed; nothing if none was
abbrev pub keys_behind : List Entry → Option (List ℕ) → Option (List ℕ) → List (List ℕ)
keys_behind points None high = []
keys_behind points (Some key) high = keys_ahead points key true high

-- what comes first of some keys: the first, before the others, or nothing if there is none
abbrev pub Comes : List (List ℕ) → Option (List ℕ) → List (List ℕ) → Type 0
Comes keys None others = (keys ≡ []) × (others ≡ [])
Comes keys (Some key) others = keys ≡ key ∷ others

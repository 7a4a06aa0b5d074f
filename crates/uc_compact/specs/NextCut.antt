-- The next of some keys above a key.
use Rattle.std.specs.Prelude.{ℕ, List, [], ◌∷◌, Option, Some, None, if◌then◌else◌}
use Rattle.std.specs.List.{flat_map}
use Rattle.std.specs.Ordering.{is_lt, is_le}
use Rattle.uc_bytes.specs.Bytes.{bytes_cmp}
use Rattle.uc_run_entry.specs.Fragment.{Fragment}
use Rattle.uc_run_entry.specs.Run.{Contents}
use Rattle.uc_compact.specs.Pieces.{fragments_in}

-- the lesser of two keys, if there are any
abbrev pub lesser : Option (List ℕ) → Option (List ℕ) → Option (List ℕ)
lesser None b = b
lesser (Some x) None = Some x
lesser (Some x) (Some y) = if is_le (bytes_cmp x y) then Some x else Some y

-- the least of some keys that is above a key
abbrev pub least_above : List ℕ → List (List ℕ) → Option (List ℕ)
least_above key [] = None
least_above key (x ∷ xs) = if is_lt (bytes_cmp key x) then lesser (Some x) (least_above key xs) else least_above key xs

-- both ends of each fragment
abbrev pub ends_of : List Fragment → List (List ℕ)
ends_of fragments = flat_map (λ f. f.begin ∷ f.end ∷ []) fragments

-- those of all runs' fragments
abbrev pub ends_in : List Contents → List (List ℕ)
ends_in runs = ends_of (fragments_in runs)

-- The next keys of several walks, and the least of them.
use Rattle.std.specs.Prelude.{◌≡◌, ℕ, ◌-◌, ◌^◌, ⊤, ◌⊎◌, true, List, [], ◌∷◌, Option, Some, None, length, map, drop, take, option_map, unwrap_or, if◌then◌else◌}
use Rattle.std.specs.List.{All, AllByRecursion, slice_get}
use Rattle.std.specs.Ordering.{is_lt, is_le}
use Rattle.uc_bytes.specs.Bytes.{bytes_cmp, same_bytes}
use Rattle.uc_run_entry.specs.declared.entry.Entry.{Entry}
use Rattle.uc_run.specs.Cursors.{Standing}
use Rattle.uc_run.specs.Prefixes.{prefix_of, AreBytes}

-- a key for each walk, or none where it is at its end; and a front that most of them begin with
pub record NextKeys : Type 0 where
  pub front : List ℕ
  pub keys : List (Option (List ℕ))

-- A number that doesn't fall as keys rise. It distinguishes keys that begin with the front and differ in the eight bytes after it.
abbrev pub number_of : List ℕ → List ℕ → ℕ
number_of front key =
    if same_bytes (take (length front) key) front
    then prefix_of (drop (length front) key)
    else if is_lt (bytes_cmp key front) then 0 else 2 ^ 64 - 1

-- that number; where there is no key one that none is above
abbrev pub next_number : List ℕ → Option (List ℕ) → ℕ
next_number front None = 2 ^ 64 - 1
next_number front (Some key) = number_of front key

-- Each key has its number, and keys are bytes.
pub record AreNumbered (front : List ℕ) (keys : List (Option (List ℕ))) (numbers : List ℕ) : Type 0 where
  pub each : numbers ≡ map (next_number front) keys
  pub bytes : All (λ key. AreBytes (unwrap_or key [])) keys

-- a key isn't above another, if there is one
abbrev pub IsFrom : List ℕ → Option (List ℕ) → Type 0
IsFrom key None = ⊤
IsFrom key (Some other) = is_le (bytes_cmp key other) ≡ true

-- a key is one of some
abbrev pub IsAmong : List ℕ → List (Option (List ℕ)) → Type 0
IsAmong key [] = ⊥
IsAmong key (other ∷ others) = (other ≡ Some key) ⊎ IsAmong key others

-- the least of some keys; none if there is none among them
abbrev pub IsLeast : List (Option (List ℕ)) → Option (List ℕ) → Type 0
IsLeast keys None = AllByRecursion (λ key. key ≡ None) keys
IsLeast keys (Some key) = AllByRecursion (IsFrom key) keys × IsAmong key keys

-- the lesser of two keys, if there are two; else the one there is
abbrev pub lesser_of : Option (List ℕ) → Option (List ℕ) → Option (List ℕ)
lesser_of None other = other
lesser_of (Some key) None = Some key
lesser_of (Some key) (Some other) = if is_lt (bytes_cmp other key) then Some other else Some key

-- the key at which a walk through a run is
abbrev pub next_key : Standing → Option (List ℕ)
next_key c = option_map (λ p. p.key) (slice_get c.run.points c.place)

-- the key of the first point
abbrev pub first_key : List Entry → Option (List ℕ)
first_key points = option_map (λ p. p.key) (slice_get points 0)

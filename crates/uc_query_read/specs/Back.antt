-- The place of a walk over the points of several runs against the order of their keys.
use Rattle.std.specs.Prelude.{◌≡◌, ◌≢◌, ℕ, Bool, true, false, List, [], ◌∷◌, ◌++◌, Option, Some, None, min, reverse, if◌then◌else◌}
use Rattle.std.specs.Ordering.{is_lt}
use Rattle.uc_bytes.specs.Bytes.{bytes_cmp}
use Rattle.uc_run_entry.specs.Run.{Contents}
use Rattle.uc_run_entry.specs.Seek.{seek_place}
use Rattle.uc_run.specs.BackCursors.{end_place, last_key, IsPreviousKey}
use Rattle.uc_run.specs.Cursors.{Standing}
use Rattle.uc_compact.specs.Inputs.{points_of}
use Rattle.uc_query_read.specs.Ahead.{keys_ahead}
use Rattle.uc_query_read.specs.Walks.{Walk}

-- the runs, and their keys at or above `low`, and below `high` if there is one: the greatest first
abbrev pub back_walk_at : List ℕ → Option (List ℕ) → List Contents → Walk
back_walk_at low high runs = record { runs = runs; keys = reverse (keys_ahead (points_of runs) low false high) }

-- before a run's points at and above `high`; at their end if there is none
abbrev pub standing_below : Option (List ℕ) → Contents → Standing
standing_below high run = record { run = run; place = end_place run.points high }

abbrev pub StandsBelow : Option (List ℕ) → Standing → Type 0
StandsBelow high c = c.place ≡ end_place c.run.points high

-- what a walk below any bound has as its last key is the run's greatest key below that
abbrev pub HasLast : Standing → Type 0
HasLast c = (high : Option (List ℕ)) → StandsBelow high c → IsPreviousKey c.run.points high (last_key c)

-- that is this key
pub record IsAtBefore (key : List ℕ) (c : Standing) : Type 0 where
  pub same : last_key c ≡ Some key
  pub last : HasLast c

-- that is another
pub record IsOtherBefore (key : List ℕ) (c : Standing) : Type 0 where
  pub other : last_key c ≢ Some key
  pub last : HasLast c

-- before the points at and above a key, never forward
abbrev pub passed_back : List ℕ → Standing → Standing
passed_back key c = record { run = c.run; place = min c.place (seek_place c.run.points key false) }

-- the greater of two keys, if there are two; else the one there is
abbrev pub greater_of : Option (List ℕ) → Option (List ℕ) → Option (List ℕ)
greater_of None other = other
greater_of (Some key) None = Some key
greater_of (Some key) (Some other) = if is_lt (bytes_cmp key other) then Some other else Some key

-- whether a key is above another, if there is one
abbrev pub is_above_other : List ℕ → Option (List ℕ) → Bool
is_above_other key None = true
is_above_other key (Some other) = is_lt (bytes_cmp other key)

-- a key, or the least one above it: what is below that is also the key itself
abbrev pub bound_at : List ℕ → Bool → List ℕ
bound_at key included = if included then key ++ 0 ∷ [] else key

-- the keys below one, or at it too if it is included
abbrev pub bound_of : Option (List ℕ) → Bool → Option (List ℕ)
bound_of None included = None
bound_of (Some key) included = Some (bound_at key included)

-- the greater of two bounds: what is below a key, or up to another if there is one
abbrev pub later_of : List ℕ → Option (List ℕ) → List ℕ × Bool
later_of begin None = (begin, false)
later_of begin (Some last) = if is_lt (bytes_cmp last begin) then (begin, false) else (last, true)

-- The place of a walk over the points of a run against their order.
use Rattle.std.specs.Prelude.{◌≡◌, ℕ, zero, suc, Bool, true, false, List, Option, Some, None, MatchOption, Contains, count_by, map, option_map}
use Rattle.std.specs.List.{AllByRecursion, find, slice_get}
use Rattle.std.specs.Ordering.{is_le}
use Rattle.uc_bytes.specs.Bytes.{bytes_cmp}
use Rattle.uc_run_entry.specs.declared.entry.Entry.{Entry}
use Rattle.uc_run_entry.specs.Run.{Contents}
use Rattle.uc_run_entry.specs.Seek.{is_passed}
use Rattle.uc_run.specs.Cursors.{Standing}
use Rattle.uc_run.specs.Hiding.{hides}

-- whether a key is below `high`, if there is one
abbrev pub is_before : Option (List ℕ) → List ℕ → Bool
is_before None key = true
is_before (Some high) key = is_passed high false key

-- how many points have such keys
abbrev pub end_place : List Entry → Option (List ℕ) → ℕ
end_place points high = count_by (λ p. is_before high p.key) points

-- the point just before a place, if there is one
abbrev pub point_before : List Entry → ℕ → Option Entry
point_before points zero = None
point_before points (suc place) = slice_get points place

-- the key of the point just before a walk's place
abbrev pub last_key : Standing → Option (List ℕ)
last_key c = option_map (λ p. p.key) (point_before c.run.points c.place)

-- the greatest of the points' keys below `high`, if there is one
pub record IsGreatestKey (points : List Entry) (high : Option (List ℕ)) (key : List ℕ) : Type 0 where
  pub of_a_point : Contains (map (λ p. p.key) points) key
  pub below : is_before high key ≡ true
  pub greatest : AllByRecursion (λ p. is_before high p.key ≡ true → is_le (bytes_cmp p.key key) ≡ true) points

-- that key; none if no point has one below `high`
abbrev pub IsPreviousKey : List Entry → Option (List ℕ) → Option (List ℕ) → Type 0
IsPreviousKey points high found = MatchOption found (AllByRecursion (λ p. is_before high p.key ≡ false) points) (IsGreatestKey points high)

-- the beginning of the first of a run's fragments that hides a key; none if none does
abbrev pub hidden_from : Contents → List ℕ → ℕ → Option (List ℕ)
hidden_from run key at = option_map (λ f. f.begin) (find (hides at key) run.fragments)

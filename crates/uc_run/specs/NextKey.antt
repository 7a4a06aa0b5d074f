-- The next key of a run's points.
use Rattle.std.specs.Prelude.{◌≡◌, ℕ, Bool, true, false, List, Option, MatchOption, Contains, map}
use Rattle.std.specs.List.{AllByRecursion}
use Rattle.std.specs.Ordering.{is_le}
use Rattle.uc_bytes.specs.Bytes.{bytes_cmp}
use Rattle.uc_run_entry.specs.declared.entry.Entry.{Entry}
use Rattle.uc_run_entry.specs.Seek.{is_passed}

-- the least of the points' keys that the search finds
pub record IsLeastKey (points : List Entry) (low : List ℕ) (strict : Bool) (key : List ℕ) : Type 0 where
  pub of_a_point : Contains (map (λ p. p.key) points) key
  pub not_passed : is_passed low strict key ≡ false
  pub least : AllByRecursion (λ p. is_passed low strict p.key ≡ false → is_le (bytes_cmp key p.key) ≡ true) points

-- that key; none if all lie before the search
abbrev pub IsNextKey : List Entry → List ℕ → Bool → Option (List ℕ) → Type 0
IsNextKey points low strict found = MatchOption found (AllByRecursion (λ p. is_passed low strict p.key ≡ true) points) (IsLeastKey points low strict)

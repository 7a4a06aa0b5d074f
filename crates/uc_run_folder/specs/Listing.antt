-- The run files in a directory, and those that opening reads.
use Rattle.std.specs.Prelude.{ℕ, suc, ◌≡◌, ◌<◌, ◌-◌, ◌^◌, true, false, List, Option, Result, Ok, Err, fold, max, not}
use Rattle.std.specs.List.{find}
use Rattle.uc_folder.specs.Device.{is_there}
use Rattle.uc_run_folder.specs.declared.listing.RunFault.{RunFault}
use Rattle.uc_run_folder.specs.declared.listing.RunFault.TheVariants.{Missing, Spent}
use Rattle.uc_run_folder.specs.Steps.{has_run, are_among}
use Rattle.uc_run_folder.specs.Files.{Files, next_in}

-- the greatest number of a run
abbrev pub greatest_in : List ℕ → ℕ
greatest_in listed = fold (λ most (r : ℕ). max most r) 0 listed

-- the first run of a list that isn't there
abbrev pub missing_in : List ℕ → List ℕ → Option ℕ
missing_in named listed = find (λ (r : ℕ). not (has_run r listed)) named

-- The result of opening by names: each run of the list is there, and the next number follows those of all runs.
abbrev pub AreFound : List ℕ → List ℕ → Result ℕ RunFault → Type 0
AreFound named listed (Ok next) = (are_among named listed ≡ true) × (next ≡ suc (greatest_in listed)) × (next < 2 ^ 63)
AreFound named listed (Err (Missing r)) = (has_run r named ≡ true) × (has_run r listed ≡ false)
AreFound named listed (Err (Spent r)) = (r ≡ greatest_in listed) × (2 ^ 63 - 2 < r)

-- the names in a directory: its run files, in any order
abbrev pub IsRunListing : Files → List ℕ → Type 0
IsRunListing f listed = (r : ℕ) → has_run r listed ≡ is_there (f.runs r).now

-- An opening by names isn't refused because a run is missing, and its next number is that of these files.
abbrev pub IsNextOf : Files → Result ℕ RunFault → Type 0
IsNextOf f (Ok next) = next ≡ next_in f
IsNextOf f (Err (Missing r)) = ⊥
IsNextOf f (Err (Spent r)) = (is_there (f.runs r).now ≡ true) × (2 ^ 63 - 2 < r)

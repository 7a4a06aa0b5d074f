-- A place among fragments, and a key.
use Rattle.std.specs.Prelude.{◌≡◌, ℕ, ◌≤◌, true, false, List, length}
use Rattle.std.specs.List.{AllWithin}
use Rattle.std.specs.Ordering.{is_le}
use Rattle.uc_bytes.specs.Bytes.{bytes_cmp}
use Rattle.uc_run_entry.specs.Fragment.{Fragment}

-- each fragment before the place ends at or before the key
abbrev pub EndBy : List ℕ → List Fragment → ℕ → Type 0
EndBy key fragments place = AllWithin (λ f. is_le (bytes_cmp f.end key) ≡ true) fragments 0 place

-- each fragment from the place on ends above the key
abbrev pub EndAbove : List ℕ → List Fragment → ℕ → Type 0
EndAbove key fragments place = AllWithin (λ f. is_le (bytes_cmp f.end key) ≡ false) fragments place (length fragments)

-- the place of the first fragment that ends above the key, or how many there are if none does
pub record IsFirstAbove (key : List ℕ) (fragments : List Fragment) (place : ℕ) : Type 0 where
  pub bound : place ≤ length fragments
  pub before : EndBy key fragments place
  pub behind : EndAbove key fragments place

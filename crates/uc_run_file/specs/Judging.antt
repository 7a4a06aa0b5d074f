-- Points one by one: each comes after the one before it, lies in the range, and is apart from the fragments.
use Rattle.std.specs.Prelude.{◌≡◌, ℕ, ◌^◌, ◌<◌, ◌≤◌, Option, Some, None, List, [], ◌∷◌, ⊤}
use Rattle.std.specs.declared.cmp.Ordering.TheVariants.{Less}
use Rattle.uc_run_entry.specs.declared.entry.Entry.{Entry}
use Rattle.uc_run_entry.specs.Fragment.{Fragment}
use Rattle.uc_run_entry.specs.Order.{entry_cmp}
use Rattle.uc_run_entry.specs.Run.{IsWithin, IsApart}

-- a point comes after another, if there is one
abbrev pub IsAfter : Option Entry → Entry → Type 0
IsAfter None p = ⊤
IsAfter (Some q) p = entry_cmp q p ≡ Less

pub record IsGood (low high : ℕ) (fragments : List Fragment) (before : Option Entry) (p : Entry) : Type 0 where
  pub after : IsAfter before p
  pub within : IsWithin low high p.seq
  pub apart : IsApart fragments p

-- each of some points, of which the first comes after another
abbrev pub AreGood : ℕ → ℕ → List Fragment → Option Entry → List Entry → Type 0
AreGood low high fragments before [] = ⊤
AreGood low high fragments before (p ∷ ps) = IsGood low high fragments before p × AreGood low high fragments (Some p) ps

-- a range of sequences that writes may have
pub record IsRange (low high : ℕ) : Type 0 where
  pub from_one : 1 ≤ low
  pub range : low ≤ high
  pub below : high < 2 ^ 56

use Rattle.std.proofs.Common.{◌≡◌, ℕ, ◌<◌, ◌≤◌, true}
use Rattle.uc_folder.specs.Listing as listing
use Rattle.uc_folder.proofs.listing.missing_in.Given as goal

abbrev pub invariant-loop-number : goal.invariant-loop-number
invariant-loop-number l = (k : ℕ) → l.from ≤ k → k < l.number → listing.is_listed k l.logs ≡ true

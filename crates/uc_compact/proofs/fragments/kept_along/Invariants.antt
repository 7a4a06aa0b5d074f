use Rattle.std.proofs.Common.{◌≡◌, ℕ, List, [], ◌∷◌, ◌++◌, ◌-◌, length}
use Rattle.uc_run_entry.specs.Cutting.{pieces}
use Rattle.uc_run_entry.specs.Spanning.{covered, with_seqs}
use Rattle.uc_compact.proofs.KeptPieces.{kept_of}
use Rattle.uc_compact.proofs.NextCuts.{above, cuts_in}
use Rattle.uc_compact.proofs.fragments.kept_along.Given as goal

pub record Made (l : goal.Live-loop-end) : Type 0 where
  pub same : l.fronts ≡ l.fn.fronts
  -- the cut points before the last
  pub before : List (List ℕ)
  pub cuts : l.cuts ≡ before ++ l.begin ∷ []
  pub long : length l.kept ≡ length l.cuts - 1
  pub made : covered (with_seqs (pieces l.cuts) l.kept) ++ kept_of l.keeping l.fn.fronts (pieces (l.begin ∷ above l.begin (cuts_in l.fn.fronts))) ≡ kept_of l.keeping l.fn.fronts (pieces (cuts_in l.fn.fronts))

abbrev pub invariant-loop-end : goal.invariant-loop-end
invariant-loop-end l = Made l

abbrev pub decreases-loop-end : goal.decreases-loop-end
decreases-loop-end l = length (above l.begin (cuts_in l.fn.fronts))

-- Spans with their index.
use Rattle.std.specs.Prelude.{◌≡◌, ℕ, List}
use Rattle.std.specs.List.{AllByRecursion}
use Rattle.uc_run_entry.specs.declared.spans.Spans.TheInside.{Inside}
use Rattle.uc_run_entry.specs.Spans.{IsWithin, listed}
use Rattle.uc_run_entry.specs.Joined.{AreJoined}
use Rattle.uc_run_entry.specs.Tree.{nodes}

-- the sequences of each fragment
abbrev pub lists_of : Inside → List (List ℕ)
lists_of s = listed s.fragments s.spans.items

-- the spans have fragments and are joined, and the index is theirs
pub record IsIndexed (s : Inside) : Type 0 where
  pub within : AllByRecursion (IsWithin s.fragments) s.spans.items
  pub joined : AreJoined s.spans.items
  pub indexed : s.nodes ≡ nodes s.fragments 0 s.fragments s.spans.items

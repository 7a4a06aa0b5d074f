-- Fragments and the spans that they share.
use Rattle.std.specs.Prelude.{◌≡◌, ℕ, List, map, Option, Some, None, MatchOption, ⊤}
use Rattle.std.specs.Arc.{arc_value}
use Rattle.uc_run_entry.specs.Fragment.{Fragment}
use Rattle.uc_run_entry.specs.declared.fragments.Fragments.TheInside.{Inside}
use Rattle.uc_run_entry.specs.Spanning.{some_of}

-- the ends of a fragment
abbrev pub ends_of : Fragment → List ℕ × List ℕ
ends_of f = (f.begin, f.end)

-- if there are spans, the fragments' sequences are those of the spans' lists that have some
abbrev pub AreShared : Inside → Type 0
AreShared f = MatchOption f.spans ⊤ (λ spans. map (λ g. g.seqs) f.list.items ≡ some_of (arc_value spans))

-- both have spans, and their lists are the same
abbrev pub AreOfSame : Option (List (List ℕ)) → Option (List (List ℕ)) → Type 0
AreOfSame (Some spans) (Some others) = spans ≡ others
AreOfSame (Some spans) None = ⊥
AreOfSame None others = ⊥

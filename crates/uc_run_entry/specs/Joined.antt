-- Spans that say the same as others, and are as few and as long as possible.
use Rattle.std.specs.Prelude.{◌≡◌, ℕ, ◌<◌, ◌≤◌, ◌==◌, ◌&&◌, List, [], ◌∷◌, ⊤, if◌then◌else◌, nat_le, max}
use Rattle.std.specs.List.{AllByRecursion}
use Rattle.uc_run_entry.specs.declared.span.Span.{Span}
use Rattle.uc_run_entry.specs.Spans.{IsWithin, seqs_in, falling}

-- its sequence isn't above that of another; if they are equal, it doesn't begin before the other
abbrev pub Follows : Span → Span → Type 0
Follows s t = (t.seq ≤ s.seq) × (t.seq ≡ s.seq → s.first ≤ t.first)

-- each follows those before it
abbrev pub AreSorted : List Span → Type 0
AreSorted [] = ⊤
AreSorted (s ∷ ss) = AllByRecursion (Follows s) ss × AreSorted ss

-- its sequence is less than that of another; or it is equal, and a fragment lies between the two
abbrev pub IsBehind : Span → Span → Type 0
IsBehind s t = (t.seq ≤ s.seq) × (t.seq ≡ s.seq → s.end < t.first)

-- each has fragments and comes after those before it: the newest first, and those of one sequence with gaps between
-- them
abbrev pub AreJoined : List Span → Type 0
AreJoined [] = ⊤
AreJoined (s ∷ ss) = (s.first < s.end) × AllByRecursion (IsBehind s) ss × AreJoined ss

-- a span and those that follow it; each is joined to the one before it if both have one sequence and it begins within
-- that one or at its end
abbrev pub joined_onto : Span → List Span → List Span
joined_onto s [] = s ∷ []
joined_onto s (t ∷ ts) =
    if t.seq == s.seq && nat_le t.first s.end then joined_onto (record { seq = s.seq; first = s.first; end = max s.end t.end }) ts
    else s ∷ joined_onto t ts

-- sorted spans, joined
abbrev pub joined : List Span → List Span
joined [] = []
joined (s ∷ ss) = joined_onto s ss

-- spans that lie below a count, are joined, and have for each fragment the sequences that others have for it
pub record SayWhat (count : ℕ) (given made : List Span) : Type 0 where
  pub within : AllByRecursion (IsWithin count) made
  pub joined : AreJoined made
  pub same : (fragment : ℕ) → falling (seqs_in fragment made) ≡ falling (seqs_in fragment given)

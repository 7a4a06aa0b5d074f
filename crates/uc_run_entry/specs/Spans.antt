-- Sequences over neighbouring fragments, and the lists of the fragments that have them.
use Rattle.std.specs.Prelude.{ℕ, ◌<◌, ◌≤◌, Bool, ◌&&◌, Option, Some, None, List, [], ◌∷◌, map, fold, filter, nat_lt, nat_le}
use Rattle.std.specs.List.{range_with_len}
use Rattle.std.specs.List.Sorted.{IsStrictlySortedBy}
use Rattle.std.specs.Ordering.{nat_cmp, flip_args}
use Rattle.std.specs.BTreeSet.{insert_key}
use Rattle.uc_run_entry.specs.declared.span.Span.{Span}

-- it has fragments, all of them below a count
abbrev pub IsWithin : ℕ → Span → Type 0
IsWithin count s = (s.first < s.end) × (s.end ≤ count)

-- whether it covers a fragment
abbrev pub stands_in : ℕ → Span → Bool
stands_in fragment s = nat_le s.first fragment && nat_lt fragment s.end

-- the sequences of the spans that cover a fragment, in the order of the spans
abbrev pub seqs_in : ℕ → List Span → List ℕ
seqs_in fragment spans = map (λ s. s.seq) (filter (stands_in fragment) spans)

-- sequences, the greatest first, each once
abbrev pub falling : List ℕ → List ℕ
falling seqs = fold (insert_key (flip_args nat_cmp)) [] seqs

-- each sequence is above those after it
abbrev pub IsFalling : List ℕ → Type 0
IsFalling seqs = IsStrictlySortedBy (flip_args nat_cmp) seqs

-- the sequence of the first span, if there is one
abbrev pub first_seq : List Span → Option ℕ
first_seq [] = None
first_seq (s ∷ ss) = Some s.seq

-- for each of `count` fragments the sequences of the spans that cover it, the greatest first, each once
abbrev pub listed : ℕ → List Span → List (List ℕ)
listed count spans = map (λ fragment. falling (seqs_in fragment spans)) (range_with_len 0 count)

-- Ranges as spans: which of the pieces between cut points each covers.
use Rattle.std.specs.Prelude.{ℕ, ◌-◌, Bool, List, [], ◌∷◌, length, map, filter, if◌then◌else◌, nat_lt, nat_le}
use Rattle.std.specs.List.{count_by}
use Rattle.std.specs.Ordering.{is_lt, is_le}
use Rattle.uc_bytes.specs.Bytes.{bytes_cmp}
use Rattle.uc_run_entry.specs.Fragment.{Fragment}
use Rattle.uc_run_entry.specs.Cutting.{RangeOf, Piece}
use Rattle.uc_run_entry.specs.declared.span.Span.{Span}

-- The pieces that a range covers, by number. The first is the number of cut points below its begin. The last ends at
-- the last cut point up to its end.
abbrev pub span_of : List (List ℕ) → RangeOf → Span
span_of cuts r = record {
  seq = r.seq;
  first = count_by (λ cut. is_lt (bytes_cmp cut r.begin)) cuts;
  end = count_by (λ cut. is_le (bytes_cmp cut r.end)) cuts - 1;
}

-- whether it covers any piece
abbrev pub has_pieces : Span → Bool
has_pieces s = nat_lt s.first s.end

-- the spans of the ranges that cover pieces
abbrev pub spans_of : List (List ℕ) → List RangeOf → List Span
spans_of cuts ranges = filter has_pieces (map (span_of cuts) ranges)

-- pieces with lists of sequences, one for each
abbrev pub with_seqs : List Piece → List (List ℕ) → List Fragment
with_seqs [] lists = []
with_seqs (piece ∷ pieces) [] = []
with_seqs (piece ∷ pieces) (seqs ∷ lists) = record { begin = piece.0; end = piece.1; seqs = seqs } ∷ with_seqs pieces lists

-- those of fragments that have sequences
abbrev pub covered : List Fragment → List Fragment
covered fragments = filter (λ f. nat_lt 0 (length f.seqs)) fragments

-- those of lists that have sequences
abbrev pub some_of : List (List ℕ) → List (List ℕ)
some_of lists = filter (λ seqs. nat_lt 0 (length seqs)) lists

-- sequences if they are at most `few`
abbrev pub if_few : ℕ → List ℕ → List ℕ
if_few few seqs = if nat_le (length seqs) few then seqs else []

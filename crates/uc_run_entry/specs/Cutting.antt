-- Range deletions cut into fragments (RocksDB wiki, "DeleteRange").
use Rattle.std.specs.Prelude.{ℕ, Bool, ◌&&◌, List, [], ◌∷◌, length, map, fold, filter, nat_lt}
use Rattle.std.specs.List.{flat_map}
use Rattle.std.specs.Ordering.{nat_cmp, flip_args, is_lt, is_le}
use Rattle.std.specs.BTreeSet.{insert_key}
use Rattle.uc_bytes.specs.Bytes.{bytes_cmp}
use Rattle.uc_run_entry.specs.Fragment.{Fragment}

-- a range deletion: its ends and its sequence
pub record RangeOf : Type 0 where
  pub begin : List ℕ
  pub end : List ℕ
  pub seq : ℕ

-- whether it covers any key
abbrev pub has_keys : RangeOf → Bool
has_keys r = is_lt (bytes_cmp r.begin r.end)

-- whether it covers a key
abbrev pub range_covers : RangeOf → List ℕ → Bool
range_covers r key = is_le (bytes_cmp r.begin key) && is_lt (bytes_cmp key r.end)

-- the cut points: both ends of each range that covers a key, in byte order, each once
abbrev pub cut_points : List RangeOf → List (List ℕ)
cut_points ranges = fold (insert_key bytes_cmp) [] (flat_map (λ r. r.begin ∷ r.end ∷ []) (filter has_keys ranges))

-- a piece of the key space, from the first of its ends to below the second
abbrev pub Piece : Type 0
Piece = List ℕ × List ℕ

-- the pieces between neighbouring cut points
abbrev pub pieces : List (List ℕ) → List Piece
pieces [] = []
pieces (begin ∷ []) = []
pieces (begin ∷ end ∷ cuts) = (begin, end) ∷ pieces (end ∷ cuts)

-- whether a range covers the whole piece
abbrev pub spans : Piece → RangeOf → Bool
spans piece r = is_le (bytes_cmp r.begin piece.0) && is_le (bytes_cmp piece.1 r.end)

-- sequences, the greatest first, each once
abbrev pub falling : List ℕ → List ℕ
falling seqs = fold (insert_key (flip_args nat_cmp)) [] seqs

-- a piece with the sequences of the ranges over it
abbrev pub fragment_over : List RangeOf → Piece → Fragment
fragment_over ranges piece = record { begin = piece.0; end = piece.1; seqs = falling (map (λ r. r.seq) (filter (spans piece) ranges)) }

-- The fragments of some ranges: each piece between neighbouring cut points that some range covers. Neighbours with
-- equal sequences aren't joined.
abbrev pub fragments_of : List RangeOf → List Fragment
fragments_of ranges = filter (λ f. nat_lt 0 (length f.seqs)) (map (fragment_over ranges) (pieces (cut_points ranges)))

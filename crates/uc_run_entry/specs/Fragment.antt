-- Fragments of range deletions, as a contract sees them.
use Rattle.std.specs.Prelude.{ℕ, ◌+◌, Bool, ◌&&◌, List, []}
use Rattle.std.specs.List.{slice_index_or}
use Rattle.uc_bytes.specs.Bytes.{same_bytes}
use Rattle.uc_run_entry.specs.Seqs.{same_seqs}

-- the keys from `begin` to below `end`, and the sequences of the range deletions over them
pub record Fragment : Type 0 where
  pub begin : List ℕ
  pub end : List ℕ
  pub seqs : List ℕ

-- the keys between two neighbouring cut points, with sequences
abbrev pub fragment_between : List (List ℕ) → ℕ → List ℕ → Fragment
fragment_between cuts first seqs = record { begin = slice_index_or cuts first []; end = slice_index_or cuts (first + 1) []; seqs = seqs }

-- whether two are equal
abbrev pub same_fragment : Fragment → Fragment → Bool
same_fragment f g = same_bytes f.begin g.begin && same_bytes f.end g.end && same_seqs f.seqs g.seqs

-- The pieces of the key space between the ends of several runs' fragments.
use Rattle.std.specs.Prelude.{◌≡◌, ℕ, ◌<◌, List, length, map, filter, nat_lt}
use Rattle.std.specs.List.{AllByRecursion, flat_map}
use Rattle.uc_run_entry.specs.Fragment.{Fragment}
use Rattle.uc_run_entry.specs.Order.{IsFalling}
use Rattle.uc_run_entry.specs.Run.{Contents, covers}
use Rattle.uc_run_entry.specs.Cutting.{Piece, pieces}
use Rattle.uc_compact.specs.Output.{seqs_kept}
use Rattle.uc_compact.specs.Stripes.{Keeping}
use Rattle.uc_compact.specs.Together.{together}

-- the sequences of each fragment over a key
abbrev pub lists_over : List ℕ → List Fragment → List (List ℕ)
lists_over key fragments = map (λ (f : Fragment). f.seqs) (filter (λ f. covers f key) fragments)

-- the fragments of all runs
abbrev pub fragments_in : List Contents → List Fragment
fragments_in runs = flat_map (λ r. r.fragments) runs

-- sequences that fall, from 1 on
pub record IsList (seqs : List ℕ) : Type 0 where
  pub falls : IsFalling seqs
  pub from_one : AllByRecursion (λ n. 0 < n) seqs

-- the lists are those of the runs' fragments over a key, and each falls, from 1 on
pub record AreOver (key : List ℕ) (runs : List Contents) (lists : List (List ℕ)) : Type 0 where
  pub are : lists ≡ lists_over key (fragments_in runs)
  pub each : AllByRecursion IsList lists

-- a piece with the sequences over its first key; these are over all of its keys if no fragment ends within it
abbrev pub piece_over : List Contents → Piece → Fragment
piece_over runs piece = record { begin = piece.0; end = piece.1; seqs = together (lists_over piece.0 (fragments_in runs)) }

-- the pieces between neighbouring cut points that a fragment covers
abbrev pub pieces_over : List Contents → List (List ℕ) → List Fragment
pieces_over runs cuts = filter (λ f. nat_lt 0 (length f.seqs)) (map (piece_over runs) (pieces cuts))

-- the sequences that are kept of those over a key
abbrev pub kept_over : Keeping → List Contents → List ℕ → List ℕ
kept_over k runs key = seqs_kept k (together (lists_over key (fragments_in runs)))

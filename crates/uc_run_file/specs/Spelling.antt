-- The fragments of a run as bytes. A fragment is its begin, its end and its sequences, the newest first. A byte string is its length and
-- its bytes, sequences are their number and then each of them, and each number has one to nine bytes (uc_run_points, `specs/Numbers.antt`).
use Rattle.std.specs.Prelude.{ℕ, ◌^◌, ◌<◌, List, ◌++◌, length}
use Rattle.std.specs.List.{AllByRecursion, flat_map}
use Rattle.uc_run_entry.specs.Fragment.{Fragment}
use Rattle.uc_run_points.specs.Numbers.{number_text}

unfoldable pub string_text : List ℕ → List ℕ
string_text bytes = number_text (length bytes) ++ bytes

abbrev pub numbers_text : List ℕ → List ℕ
numbers_text numbers = flat_map number_text numbers

unfoldable pub fragment_text : Fragment → List ℕ
fragment_text f = string_text f.begin ++ (string_text f.end ++ (number_text (length f.seqs) ++ numbers_text f.seqs))

-- fragments, one after the other
abbrev pub fragments_text : List Fragment → List ℕ
fragments_text fragments = flat_map fragment_text fragments

-- its parts fit their numbers
pub record Fits (f : Fragment) : Type 0 where
  pub begin : length f.begin < 2 ^ 64
  pub end : length f.end < 2 ^ 64
  pub count : length f.seqs < 2 ^ 64
  pub seqs : AllByRecursion (λ seq. seq < 2 ^ 64) f.seqs

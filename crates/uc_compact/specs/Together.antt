-- The sequences of several lists together.
use Rattle.std.specs.Prelude.{ℕ, List}
use Rattle.std.specs.List.{flat_map}
use Rattle.uc_run_entry.specs.Cutting.{falling}

-- the greatest first, each once
abbrev pub together : List (List ℕ) → List ℕ
together lists = falling (flat_map (λ (seqs : List ℕ). seqs) lists)

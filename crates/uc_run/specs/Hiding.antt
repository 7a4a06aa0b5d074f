-- Keys whose older writes a run's range deletions hide.
use Rattle.std.specs.Prelude.{ℕ, Bool, ◌&&◌, List, Option, option_map, nat_le}
use Rattle.std.specs.List.{list_any, find}
use Rattle.uc_run_entry.specs.Fragment.{Fragment}
use Rattle.uc_run_entry.specs.Run.{Contents, covers}

-- a fragment covers the key and has a range deletion at or below the sequence
abbrev pub hides : ℕ → List ℕ → Fragment → Bool
hides at key f = covers f key && list_any (λ seq. nat_le seq at) f.seqs

-- the end of the first of a run's fragments that hides a key; none if none does
abbrev pub hidden_to : Contents → List ℕ → ℕ → Option (List ℕ)
hidden_to run key at = option_map (λ f. f.end) (find (hides at key) run.fragments)

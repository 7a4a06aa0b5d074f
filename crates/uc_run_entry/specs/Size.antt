-- How large a run is, in bytes as the picker counts them.
use Rattle.std.specs.Prelude.{ℕ, ◌+◌, ◌*◌, ◌-◌, ◌^◌, length, min}
use Rattle.std.specs.List.{sum_by}
use Rattle.uc_run_entry.specs.declared.entry.Entry.{Entry}
use Rattle.uc_run_entry.specs.declared.entry.What.{What}
use Rattle.uc_run_entry.specs.declared.entry.What.TheVariants.{Put, Delete, Merge}
use Rattle.uc_run_entry.specs.Fragment.{Fragment}
use Rattle.uc_run_entry.specs.Run.{Contents}

abbrev pub what_size : What → ℕ
what_size (Put value) = length value
what_size Delete = 0
what_size (Merge operand) = length operand

-- the key, the value or operand, and 8 for the sequence
abbrev pub entry_size : Entry → ℕ
entry_size p = length p.key + what_size p.what + 8

-- both ends, and 8 for each sequence
abbrev pub fragment_size : Fragment → ℕ
fragment_size f = length f.begin + length f.end + 8 * length f.seqs

-- the sum, at most 2^64 - 1
abbrev pub size_of : Contents → ℕ
size_of run = min (sum_by entry_size run.points + sum_by fragment_size run.fragments) (2 ^ 64 - 1)

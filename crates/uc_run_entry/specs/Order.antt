-- The order of a run's points and of sequences.
use Rattle.std.specs.Prelude.{◌≡◌, ℕ, true, List, [], ◌∷◌, ⊤}
use Rattle.std.specs.declared.cmp.Ordering.{Ordering}
use Rattle.std.specs.Ordering.{nat_cmp, ordering_then, flip_args, is_lt, is_le}
use Rattle.std.specs.List.{AllByRecursion}
use Rattle.std.specs.List.Sorted.{IsStrictlySortedBy}
use Rattle.uc_bytes.specs.Bytes.{bytes_cmp}
use Rattle.uc_run_entry.specs.declared.entry.Entry.{Entry}
use Rattle.uc_run_entry.specs.Fragment.{Fragment}

-- points by key, the newest of a key first
abbrev pub entry_cmp : Entry → Entry → Ordering
entry_cmp a b = ordering_then (bytes_cmp a.key b.key) (nat_cmp b.seq a.seq)

-- each sequence is above those after it
abbrev pub IsFalling : List ℕ → Type 0
IsFalling seqs = IsStrictlySortedBy (flip_args nat_cmp) seqs

-- fragments by key: each has keys, and ends at or before the begin of those after it
abbrev pub AreInOrder : List Fragment → Type 0
AreInOrder [] = ⊤
AreInOrder (f ∷ fs) = (is_lt (bytes_cmp f.begin f.end) ≡ true) × AllByRecursion (λ g. is_le (bytes_cmp f.end g.begin) ≡ true) fs × AreInOrder fs

-- the first fragment, if there is one, has keys
abbrev pub FirstHasKeys : List Fragment → Type 0
FirstHasKeys [] = ⊤
FirstHasKeys (f ∷ fs) = is_lt (bytes_cmp f.begin f.end) ≡ true

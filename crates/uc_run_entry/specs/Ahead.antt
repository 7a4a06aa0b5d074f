-- The sequences of a fragment that are still ahead.
use Rattle.std.specs.Prelude.{ℕ, ◌-◌, ◌==◌, if◌then◌else◌, Option, Some, None, List, [], filter, nat_le}

-- those of falling sequences that aren't above a number, or none
abbrev pub ahead : Option ℕ → List ℕ → List ℕ
ahead None seqs = []
ahead (Some at) seqs = filter (λ seq. nat_le seq at) seqs

-- what may be ahead after a sequence that was found
abbrev pub after : Option ℕ → Option ℕ
after None = None
after (Some seq) = if seq == 0 then None else Some (seq - 1)

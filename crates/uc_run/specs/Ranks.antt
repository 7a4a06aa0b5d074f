-- Ranks: numbers that order points by their keys.
use Rattle.std.specs.Prelude.{◌≡◌, ℕ, ◌+◌, ◌-◌, ◌*◌, ◌/◌, ◌%◌, ◌^◌, ◌≤◌, List, [], ◌∷◌, Option, Some, None, length, map, take, drop}
use Rattle.std.specs.List.{All, slice_get}
use Rattle.std.specs.declared.cmp.Ordering.{Ordering}
use Rattle.std.specs.Ordering.{nat_cmp, ordering_then}
use Rattle.uc_bytes.specs.Bytes.{bytes_cmp}
use Rattle.uc_bytes.specs.declared.op.Op.{Op}
use Rattle.uc_bytes.specs.declared.op.Op.TheVariants.{Put, Delete, Merge, DeleteRange}
use Rattle.uc_bytes.specs.declared.write.Write.{Write}
use Rattle.uc_run_entry.specs.declared.entry.Entry.{Entry}
use Rattle.uc_run_entry.specs.declared.entry.What.{What}
use Rattle.uc_run_entry.specs.declared.entry.What.TheVariants as what
use Rattle.uc_run.specs.Prefixes.{prefix_of, AreBytes}

-- the key of a point; the begin of a range, which is no point
abbrev pub key_in : Op → List ℕ
key_in (Put key value) = key
key_in (Delete key) = key
key_in (Merge key operand) = key
key_in (DeleteRange begin end) = begin

-- what a change says of its key; a range deletion is no point, and counts as a deletion here
abbrev pub what_in : Op → What
what_in (Put key value) = what.Put value
what_in (Delete key) = what.Delete
what_in (Merge key operand) = what.Merge operand
what_in (DeleteRange begin end) = what.Delete

-- the point of a write
abbrev pub entry_in : Write → Entry
entry_in w = record { key = key_in w.op; seq = w.seq; what = what_in w.op }

-- the point of a write, if there is one
abbrev pub entry_or : Option Write → Entry
entry_or None = record { key = []; seq = 0; what = what.Delete }
entry_or (Some w) = entry_in w

-- number of slots that ranks can distinguish by their last bits
abbrev pub room : ℕ → ℕ
room bits = 2 ^ (bits % 64)

-- the first bits of the prefix, after which the slot's number is stored
abbrev pub high_in : ℕ → ℕ → ℕ
high_in bits rank = rank / room bits

abbrev pub low_in : ℕ → ℕ → ℕ
low_in bits rank = rank % room bits

-- the rank of a slot's number, by the first bits of a prefix
abbrev pub rank_of : ℕ → ℕ → ℕ → ℕ
rank_of bits prefix number = high_in bits prefix * room bits + low_in bits number

-- the place of the slot with a number: the last one has the number 0
abbrev pub place_in : ℕ → ℕ → ℕ → ℕ
place_in count bits rank = count - 1 - low_in bits rank

-- the point of a rank's slot
abbrev pub entry_at : List Write → ℕ → ℕ → Entry
entry_at writes bits rank = entry_or (slice_get writes (place_in (length writes) bits rank))

abbrev pub points_of : List Write → ℕ → List ℕ → List Entry
points_of writes bits ranks = map (entry_at writes bits) ranks

-- a rank by the prefix of its point's key after the first bytes
abbrev pub ranked_at : List Write → ℕ → ℕ → ℕ → ℕ
ranked_at writes shared bits rank = rank_of bits (prefix_of (drop shared (entry_at writes bits rank).key)) rank

-- order of points by the bytes after the shared ones of their keys, the newest of a key first
abbrev pub behind_cmp : ℕ → Entry → Entry → Ordering
behind_cmp shared p q = ordering_then (bytes_cmp (drop shared p.key) (drop shared q.key)) (nat_cmp q.seq p.seq)

-- ranks by the first bits of the prefixes, then as their points
abbrev pub rank_cmp : List Write → ℕ → ℕ → ℕ → ℕ → Ordering
rank_cmp writes shared bits rank other =
    ordering_then (nat_cmp (high_in bits rank) (high_in bits other)) (behind_cmp shared (entry_at writes bits rank) (entry_at writes bits other))

abbrev pub first_key : List Entry → List ℕ
first_key [] = []
first_key (p ∷ ps) = p.key

-- a key begins with the first bytes of another
pub record HasFront (shared : ℕ) (first key : List ℕ) : Type 0 where
  pub long : shared ≤ length key
  pub same : take shared key ≡ take shared first

abbrev pub HaveFront : ℕ → List ℕ → List Entry → Type 0
HaveFront shared first points = All (λ p. HasFront shared first p.key) points

abbrev pub HaveBytes : List Entry → Type 0
HaveBytes points = All (λ p. AreBytes p.key) points

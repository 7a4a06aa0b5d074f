-- Stripes of sequences (RocksDB wiki, "Snapshot"). Reads are made only at kept sequences, so what happens within a
-- stripe is seen only at its end, and may be folded.
use Rattle.std.specs.Prelude.{ℕ, ◌-◌, ◌^◌, Bool, false, ◌&&◌, List, [], ◌∷◌, ◌++◌, Option, Some, None, nat_lt, nat_le, if◌then◌else◌}

-- the sequences above `above`, up to and including `upto`
pub record Stripe : Type 0 where
  pub above : ℕ
  pub upto : ℕ

abbrev pub is_in : Stripe → ℕ → Bool
is_in s seq = nat_lt s.above seq && nat_le seq s.upto

-- The stripes above a sequence, the newest first, if keeps rise. Each keep is the greatest sequence of a stripe. The
-- top stripe, above all keeps, goes up to the greatest sequence of all.
abbrev pub stripes_above : ℕ → List ℕ → List Stripe
stripes_above above [] = record { above = above; upto = 2 ^ 56 - 1 } ∷ []
stripes_above above (keep ∷ keeps) = stripes_above keep keeps ++ record { above = above; upto = keep } ∷ []

abbrev pub stripes : List ℕ → List Stripe
stripes keeps = stripes_above 0 keeps

-- The stripe of a sequence among those above `above`: from the greatest keep below it to the least that isn't. A
-- sequence above all stripes is in the top one.
abbrev pub stripe_from : ℕ → List ℕ → ℕ → Stripe
stripe_from above [] seq = record { above = above; upto = 2 ^ 56 - 1 }
stripe_from above (keep ∷ keeps) seq = if nat_lt keep seq then stripe_from keep keeps seq else record { above = above; upto = keep }

abbrev pub stripe_of : List ℕ → ℕ → Stripe
stripe_of keeps seq = stripe_from 0 keeps seq

-- The snapshots of a compaction: the sequence numbers of reads, in rising order, and a sequence number of the bottom stripe if
-- nothing is below its inputs.
pub record Keeping : Type 0 where
  pub keeps : List ℕ
  pub bottom : Option ℕ

-- the bottom stripe has this sequence, if there is one
abbrev pub has_bottom : Option ℕ → Stripe → Bool
has_bottom None s = false
has_bottom (Some seq) s = is_in s seq

abbrev pub is_bottom : Keeping → Stripe → Bool
is_bottom k s = has_bottom k.bottom s

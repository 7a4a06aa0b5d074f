-- Points of one key, the newest first, without those that no read sees: a newer one of their stripe overwrites them.
use Rattle.std.specs.Prelude.{ℕ, ◌-◌, Bool, false, ◌&&◌, List, [], ◌∷◌, ◌++◌, Option, Some, None, length, if◌then◌else◌}
use Rattle.std.specs.List.{slice_get}
use Rattle.uc_run_entry.specs.declared.entry.Entry.{Entry}
use Rattle.uc_run_entry.specs.Overwriting.{overwrites}
use Rattle.uc_compact.specs.Groups.{Group}
use Rattle.uc_compact.specs.Stripes.{Stripe, is_in, stripe_of}

-- both sequences are in the stripe
abbrev pub has_both : Stripe → ℕ → ℕ → Bool
has_both s newer older = is_in s newer && is_in s older

-- whether a newer point hides an older one from all reads: it overwrites what is older, and they are of one stripe
abbrev pub hides : List ℕ → Entry → Entry → Bool
hides keeps newer older = overwrites newer && has_both (stripe_of keeps newer.seq) newer.seq older.seq

-- whether the last of some points, if there is one, hides the next
abbrev pub is_hidden : List ℕ → Option Entry → Entry → Bool
is_hidden keeps None next = false
is_hidden keeps (Some last) next = hides keeps last next

-- some points with the next one, unless the last of them hides it
abbrev pub with_next : List ℕ → List Entry → Entry → List Entry
with_next keeps points next = if is_hidden keeps (slice_get points (length points - 1)) next then points else points ++ next ∷ []

-- some points with the next ones, without those that are hidden
abbrev pub with_lasting : List ℕ → List Entry → List Entry → List Entry
with_lasting keeps points [] = points
with_lasting keeps points (next ∷ others) = with_lasting keeps (with_next keeps points next) others

-- the points that none of them hides
abbrev pub lasting : List ℕ → List Entry → List Entry
lasting keeps points = with_lasting keeps [] points

-- a key with those of its points that last
abbrev pub lasting_group : List ℕ → Group → Group
lasting_group keeps g = record { key = g.key; points = lasting keeps g.points }

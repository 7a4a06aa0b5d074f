-- The result of a lookup in a run, in terms of its points and fragments.
use Rattle.std.specs.Prelude.{ℕ, Bool, ◌&&◌, List, [], ◌∷◌, Some, None, nat_le, nat_lt, filter}
use Rattle.std.specs.List.{flat_map}
use Rattle.uc_bytes.specs.Bytes.{same_bytes}
use Rattle.uc_oper.specs.Operation.{Operation}
use Rattle.uc_oper.specs.Composition.{composed}
use Rattle.uc_oper.specs.declared.effect.Effect.{Effect}
use Rattle.uc_oper.specs.declared.effect.Effect.TheVariants.{Keep, Fold, Set}
use Rattle.uc_run_entry.specs.declared.entry.Entry.{Entry}
use Rattle.uc_run_entry.specs.declared.entry.What.{What}
use Rattle.uc_run_entry.specs.declared.entry.What.TheVariants.{Put, Delete, Merge}
use Rattle.uc_run_entry.specs.Run.{Contents, covers}

-- what a point does to its key
abbrev pub what_effect : What → Effect
what_effect (Put value) = Set (Some value)
what_effect Delete = Set None
what_effect (Merge operand) = Fold operand

-- what points of one key, the newest first, make of an effect before them
abbrev pub points_effect : Operation → Effect → List Entry → Effect
points_effect m before [] = before
points_effect m before (newest ∷ older) = composed m (points_effect m before older) (what_effect newest.what)

-- a point of the key whose sequence passes a test
abbrev pub is_passing : List ℕ → (ℕ → Bool) → Entry → Bool
is_passing key test p = test p.seq && same_bytes p.key key

-- the points of the key whose sequences pass, the newest first
abbrev pub passing_points : Contents → List ℕ → (ℕ → Bool) → List Entry
passing_points run key test = filter (is_passing key test) run.points

-- the sequences that pass of the range deletions over the key, the newest first
abbrev pub passing_seqs : Contents → List ℕ → (ℕ → Bool) → List ℕ
passing_seqs run key test = filter test (flat_map (λ f. f.seqs) (filter (λ f. covers f key) run.fragments))

-- a point of the key, at or below the sequence
abbrev pub is_visible : List ℕ → ℕ → Entry → Bool
is_visible key at = is_passing key (λ seq. nat_le seq at)

-- the points of the key at or below the sequence
abbrev pub points_on : Contents → List ℕ → ℕ → List Entry
points_on run key at = passing_points run key (λ seq. nat_le seq at)

-- the sequences at or below the sequence of the range deletions over the key
abbrev pub seqs_over : Contents → List ℕ → ℕ → List ℕ
seqs_over run key at = passing_seqs run key (λ seq. nat_le seq at)

-- the points above the newest range deletion, on no value if there is one
abbrev pub above_newest : Operation → List Entry → List ℕ → Effect
above_newest m points [] = points_effect m Keep points
above_newest m points (newest ∷ older) = points_effect m (Set None) (filter (λ p. nat_lt newest p.seq) points)

-- what the points and range deletions with passing sequences do to the key
abbrev pub passing_effect : Operation → Contents → List ℕ → (ℕ → Bool) → Effect
passing_effect m run key test = above_newest m (passing_points run key test) (passing_seqs run key test)

-- what a lookup of the key at the sequence finds
abbrev pub effect_found : Operation → Contents → List ℕ → ℕ → Effect
effect_found m run key at = passing_effect m run key (λ seq. nat_le seq at)

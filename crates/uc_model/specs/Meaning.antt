-- The meaning of a read (RocksDB wiki: "Merge Operator", "DeleteRange", "Snapshot").
--
-- Lists of writes are oldest first, and each of these folds goes in the order of the list.
use Rattle.std.specs.Prelude.{◌≡◌, ℕ, Bool, ◌&&◌, List, Option, Some, None, nat_le, nat_lt, filter, fold}
use Rattle.std.specs.Ordering.{is_lt, is_le}
use Rattle.uc_bytes.specs.Bytes.{bytes_cmp, same_bytes}
use Rattle.uc_oper.specs.Operation.{Operation}
use Rattle.uc_oper.specs.Merging.{merged}
use Rattle.uc_oper.specs.Composition.{composed}
use Rattle.uc_oper.specs.declared.effect.Effect.{Effect}
use Rattle.uc_oper.specs.declared.effect.Effect.TheVariants.{Keep, Fold, Set}
use Rattle.uc_bytes.specs.declared.op.Op.{Op}
use Rattle.uc_bytes.specs.declared.op.Op.TheVariants.{Put, Delete, Merge, DeleteRange}
use Rattle.uc_bytes.specs.declared.write.Write.{Write}

-- an operation touches the key that it names, or each key from `begin` to below `end`
abbrev pub touches_key : List ℕ → Op → Bool
touches_key key (Put named value) = same_bytes named key
touches_key key (Delete named) = same_bytes named key
touches_key key (Merge named operand) = same_bytes named key
touches_key key (DeleteRange begin end) = is_le (bytes_cmp begin key) && is_lt (bytes_cmp key end)

-- an operation gives a key something to show: it puts the key, or merges into it
abbrev pub Gives : List ℕ → Op → Type 0
Gives key (Put named value) = named ≡ key
Gives key (Delete named) = ⊥
Gives key (Merge named operand) = named ≡ key
Gives key (DeleteRange begin end) = ⊥

-- a read of a key at a sequence sees a write that is at or below the sequence and touches the key
abbrev pub is_seen : List ℕ → ℕ → Write → Bool
is_seen key at w = nat_le w.seq at && touches_key key w.op

-- the writes that such a read sees, oldest first
abbrev pub touching : List Write → List ℕ → ℕ → List Write
touching writes key at = filter (is_seen key at) writes

-- the value that an operation leaves of a key that it touches
abbrev pub changed : Operation → Option (List ℕ) → Op → Option (List ℕ)
changed m value (Put named new) = Some new
changed m value (Delete named) = None
changed m value (Merge named operand) = Some (merged m value operand)
changed m value (DeleteRange begin end) = None

-- a key's value at a sequence, folded over the writes, oldest first, from a value before them
abbrev pub value_from : Operation → Option (List ℕ) → List Write → List ℕ → ℕ → Option (List ℕ)
value_from m value writes key at = fold (λ v w. changed m v w.op) value (touching writes key at)

-- a key's value at a sequence, folded over the writes, oldest first, from no value
abbrev pub value_of : Operation → List Write → List ℕ → ℕ → Option (List ℕ)
value_of m writes key at = value_from m None writes key at

-- what a single operation does to a key that it touches
abbrev pub effect_of : Op → Effect
effect_of (Put named new) = Set (Some new)
effect_of (Delete named) = Set None
effect_of (Merge named operand) = Fold operand
effect_of (DeleteRange begin end) = Set None

-- the composed effect of writes, oldest first, on a key that each of them touches
abbrev pub effect_in_turn : Operation → List Write → Effect
effect_in_turn m writes = fold (λ effect w. composed m effect (effect_of w.op)) Keep writes

-- the composed effect on a key of the writes, oldest first, at or below a sequence
abbrev pub effect_on : Operation → List Write → List ℕ → ℕ → Effect
effect_on m writes key at = effect_in_turn m (touching writes key at)

-- the writes that touch a key, above `low` and at or below `high`, oldest first
abbrev pub touching_within : List Write → List ℕ → ℕ → ℕ → List Write
touching_within writes key low high = filter (λ w. nat_lt low w.seq && is_seen key high w) writes

-- the composed effect on a key of a stripe: the writes above `low` and at or below `high`, oldest first
abbrev pub effect_within : Operation → List Write → List ℕ → ℕ → ℕ → Effect
effect_within m writes key low high = effect_in_turn m (touching_within writes key low high)

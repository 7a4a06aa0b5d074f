-- The write that a read of a key at a sequence number sees at each place of a list of writes, and its effect on the key.
use Rattle.std.specs.Prelude.{ℕ, zero, suc, Bool, false, List, [], ◌∷◌, Option, Some, None, take, if◌then◌else◌}
use Rattle.std.specs.List.{slice_get}
use Rattle.uc_bytes.specs.declared.write.Write.{Write}
use Rattle.uc_bytes.specs.declared.op.Op.{Op}
use Rattle.uc_bytes.specs.declared.op.Op.TheVariants.{Put, Delete, Merge, DeleteRange}
use Rattle.uc_oper.specs.Operation.{Operation}
use Rattle.uc_oper.specs.Composition.{composed}
use Rattle.uc_oper.specs.declared.effect.Effect.{Effect}
use Rattle.uc_oper.specs.declared.effect.Effect.TheVariants.{Keep}
use Rattle.uc_model.specs.Meaning.{is_seen, effect_of}
use Rattle.uc_memtable.specs.declared.sight.Bearing.{Bearing}
use Rattle.uc_memtable.specs.declared.sight.Bearing.TheVariants.{Merges, Overwrites}
use Rattle.uc_memtable.specs.declared.sight.Sight.{Sight}

-- the write, if it is seen
abbrev pub if_seen : List ℕ → ℕ → Option Write → Option Write
if_seen key at None = None
if_seen key at (Some w) = if is_seen key at w then Some w else None

abbrev pub seen_at : List Write → List ℕ → ℕ → ℕ → Option Write
seen_at writes key at place = if_seen key at (slice_get writes place)

-- what is seen at each place of the first writes
abbrev pub seen_by : Sight → ℕ → Option Write
seen_by s = seen_at (take s.shown s.writes.now) s.key.now s.at

-- an effect, and then that of a write, if there is one
abbrev pub then_seen : Operation → Effect → Option Write → Effect
then_seen m effect None = effect
then_seen m effect (Some w) = composed m effect (effect_of w.op)

-- the effect of what is seen below a place
abbrev pub effect_below : Operation → (ℕ → Option Write) → ℕ → Effect
effect_below m seen zero = Keep
effect_below m seen (suc n) = then_seen m (effect_below m seen n) (seen n)

-- an effect, and then those of places, the newest first
abbrev pub effect_over : Operation → (ℕ → Option Write) → Effect → List ℕ → Effect
effect_over m seen effect [] = effect
effect_over m seen effect (place ∷ places) = then_seen m (effect_over m seen effect places) (seen place)

abbrev pub effect_alone : Option Write → Effect
effect_alone None = Keep
effect_alone (Some w) = effect_of w.op

-- the effect of the place before an end alone
abbrev pub effect_before : (ℕ → Option Write) → ℕ → Effect
effect_before seen zero = Keep
effect_before seen (suc n) = effect_alone (seen n)

-- whether something is seen, and passes
abbrev pub seen_passes : (Write → Bool) → Option Write → Bool
seen_passes test None = false
seen_passes test (Some w) = test w

-- how a change bears on the older ones of its key
abbrev pub bearing_of : Op → Bearing
bearing_of (Put key value) = Overwrites
bearing_of (Delete key) = Overwrites
bearing_of (Merge key operand) = Merges
bearing_of (DeleteRange begin end) = Overwrites

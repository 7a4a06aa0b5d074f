-- The writes that a lookup sees, place by place.
use Rattle.std.proofs.Common.{◌≡◌, ℕ, zero, suc, ◌+◌, ◌-◌, ◌<◌, ◌≤◌, Bool, true, false, cond, List, [], ◌∷◌, ◌++◌, length, Option, Some, None, refl, ap, sym, ◌∙◌, arith, fold, filter, leb, get_or, map, take, min}
use Rattle.std.specs.Prelude.{◌&&◌, IfSome}
use Rattle.std.specs.List.{slice_get}
use Rattle.std.specs.Cmp.Lexicographic.{same_text}
use Rattle.std.proofs.lemmas.List.{get_or-map, length-map, length-take}
use Rattle.std.proofs.lemmas.Option.{slice_get_past, slice_get_within, get_or_from_slice_get}
use Rattle.uc_bytes.specs.declared.op.Op.{Op}
use Rattle.uc_bytes.specs.declared.op.Op.TheVariants.{Put, Delete, Merge, DeleteRange}
use Rattle.uc_bytes.specs.declared.write.Write.{Write}
use Rattle.uc_oper.specs.Operation.{Operation}
use Rattle.uc_oper.specs.Composition.{composed}
use Rattle.uc_oper.specs.declared.effect.Effect.{Effect}
use Rattle.uc_oper.specs.declared.effect.Effect.TheVariants.{Keep}
use Rattle.uc_model.specs.Meaning.{touches_key, is_seen, effect_of, effect_on}
use Rattle.uc_run.specs.KeyHash.{key_hash}
use Rattle.uc_memtable.specs.Labels.{is_range, label_of, write_label, deletes_range}
use Rattle.uc_memtable.specs.declared.sight.Sight.{Sight}
use Rattle.uc_memtable.specs.Sights.{if_seen, seen_at, seen_by, then_seen, effect_below, effect_over}

-- where nothing is seen, nothing is added
effect_below-none : (m : Operation) (seen : ℕ → Option Write) (low n : ℕ) → ((k : ℕ) → low ≤ k → k < low + n → seen k ≡ None) → effect_below m seen (low + n) ≡ effect_below m seen low
effect_below-none m seen low zero h = ap (effect_below m seen) (omega arith)
effect_below-none m seen low (suc n) h =
    let next : low + suc n ≡ suc (low + n) = omega arith in
    ap (effect_below m seen) next
    ∙ ap (then_seen m (effect_below m seen (low + n))) (h (low + n) (omega arith) (omega arith))
    ∙ effect_below-none m seen low n (λ k a b. h k a (omega arith))

pub effect_below-quiet : (m : Operation) (seen : ℕ → Option Write) (low high : ℕ) → low ≤ high → ((k : ℕ) → low ≤ k → k < high → seen k ≡ None) → effect_below m seen high ≡ effect_below m seen low
effect_below-quiet m seen low high le h =
    let sum : high ≡ low + (high - low) = omega arith in
    ap (effect_below m seen) sum ∙ effect_below-none m seen low (high - low) (λ k a b. h k a (omega arith))

-- one more of the places, the oldest
pub effect_over-more : (m : Operation) (seen : ℕ → Option Write) (effect : Effect) (places : List ℕ) (place : ℕ) → effect_over m seen effect (places ++ place ∷ []) ≡ effect_over m seen (then_seen m effect (seen place)) places
effect_over-more m seen effect [] place = refl
effect_over-more m seen effect (p ∷ places) place = ap (λ (e : Effect). then_seen m e (seen p)) (effect_over-more m seen effect places place)

-- the effect of what is seen below a place, from an effect before it
abbrev onto : Operation → (ℕ → Option Write) → Effect → ℕ → Effect
onto m seen effect zero = effect
onto m seen effect (suc n) = then_seen m (onto m seen effect n) (seen n)

onto-Keep : (m : Operation) (seen : ℕ → Option Write) (n : ℕ) → effect_below m seen n ≡ onto m seen Keep n
onto-Keep m seen zero = refl
onto-Keep m seen (suc n) = ap (λ (e : Effect). then_seen m e (seen n)) (onto-Keep m seen n)

onto-first : (m : Operation) (seen : ℕ → Option Write) (effect : Effect) (n : ℕ) → onto m seen effect (suc n) ≡ onto m (λ k. seen (suc k)) (then_seen m effect (seen zero)) n
onto-first m seen effect zero = refl
onto-first m seen effect (suc n) = ap (λ (e : Effect). then_seen m e (seen (suc n))) (onto-first m seen effect n)

abbrev in_turn : Operation → Effect → List Write → Effect
in_turn m effect writes = fold (λ e w. composed m e (effect_of w.op)) effect writes

one_first : (m : Operation) (effect : Effect) (w : Write) (rest : List Write) (b : Bool) → in_turn m effect (cond b (w ∷ rest) rest) ≡ in_turn m (then_seen m effect (cond b (Some w) None)) rest
one_first m effect w rest true = refl
one_first m effect w rest false = refl

onto_all : (m : Operation) (key : List ℕ) (at : ℕ) (writes : List Write) (effect : Effect) → in_turn m effect (filter (is_seen key at) writes) ≡ onto m (seen_at writes key at) effect (length writes)
onto_all m key at [] effect = refl
onto_all m key at (w ∷ ws) effect =
    one_first m effect w (filter (is_seen key at) ws) (is_seen key at w)
    ∙ onto_all m key at ws (then_seen m effect (if_seen key at (Some w)))
    ∙ sym (onto-first m (seen_at (w ∷ ws) key at) effect (length ws))

-- the effect of writes is that of the writes seen below any end after them
pub effect_on-seen : (m : Operation) (writes : List Write) (key : List ℕ) (at n : ℕ) → length writes ≤ n → effect_on m writes key at ≡ effect_below m (seen_at writes key at) n
effect_on-seen m writes key at n le =
    onto_all m key at writes Keep
    ∙ sym (onto-Keep m (seen_at writes key at) (length writes))
    ∙ sym (effect_below-quiet m (seen_at writes key at) (length writes) n le (λ k a b. ap (if_seen key at) (slice_get_past writes k a)))

-- a write that is seen and deletes no range names the key
abbrev NamesKey : List ℕ → Write → Type 0
NamesKey key w = deletes_range w ≡ false → write_label w ≡ key_hash key

named_by_touch : (key : List ℕ) (op : Op) → touches_key key op ≡ true → is_range op ≡ false → label_of op ≡ key_hash key
named_by_touch key (Put named value) e f = ap key_hash (same_text named key (sym e))
named_by_touch key (Delete named) e f = ap key_hash (same_text named key (sym e))
named_by_touch key (Merge named operand) e f = ap key_hash (same_text named key (sym e))
named_by_touch key (DeleteRange begin end) e f = absurd cc

second_holds : (a b : Bool) → (a && b) ≡ true → b ≡ true
second_holds true b e = e
second_holds false b e = absurd cc

if_seen_named : (key : List ℕ) (at : ℕ) (w : Write) (b : Bool) → is_seen key at w ≡ b → IfSome (cond b (Some w) None) (NamesKey key)
if_seen_named key at w true e = λ f. named_by_touch key w.op (second_holds (leb w.seq at) (touches_key key w.op) e) f
if_seen_named key at w false e = tt

named_at : (key : List ℕ) (at : ℕ) (o : Option Write) → IfSome (if_seen key at o) (NamesKey key)
named_at key at None = tt
named_at key at (Some w) = if_seen_named key at w (is_seen key at w) refl

pub seen-named : (writes : List Write) (key : List ℕ) (at place : ℕ) → IfSome (seen_at writes key at place) (NamesKey key)
seen-named writes key at place = named_at key at (slice_get writes place)

-- of the first writes, only those are seen
slice_get-take : (writes : List Write) (n place : ℕ) (w : Write) → slice_get (take n writes) place ≡ Some w → slice_get writes place ≡ Some w
slice_get-take [] zero place w e = e
slice_get-take [] (suc n) place w e = e
slice_get-take (x ∷ xs) zero place w e = absurd cc
slice_get-take (x ∷ xs) (suc n) zero w e = e
slice_get-take (x ∷ xs) (suc n) (suc place) w e = slice_get-take xs n place w e

label_of_some : (o : Option Write) (key : List ℕ) (at : ℕ) (w : Write) → if_seen key at o ≡ Some w → o ≡ Some w
label_of_some None key at w e = e
label_of_some (Some v) key at w e = seen_is (is_seen key at v) v w e
  where
    seen_is : (b : Bool) (v w : Write) → cond b (Some v) None ≡ Some w → Some v ≡ Some w
    seen_is true v w e = e
    seen_is false v w e = absurd cc

-- a write that is seen stands there, and has its label
pub seen-labelled : (writes : List Write) (n : ℕ) (key : List ℕ) (at place : ℕ) (w : Write) → seen_at (take n writes) key at place ≡ Some w → (place < length writes) × (get_or (map write_label writes) place 0 ≡ write_label w)
seen-labelled writes n key at place w e =
    let there : slice_get writes place ≡ Some w = slice_get-take writes n place w (label_of_some (slice_get (take n writes) place) key at w e) in
    let within : place < length writes = slice_get_within writes place w there in
    (within, get_or-map write_label writes place w 0 within ∙ ap write_label (get_or_from_slice_get writes place w w there))

-- the same of a lookup, by the labels of all writes
pub sight-labelled : (s : Sight) (labels : List ℕ) → labels ≡ map write_label s.writes.now → (place : ℕ) (w : Write) → seen_by s place ≡ Some w → (place < length labels) × (get_or labels place 0 ≡ write_label w)
sight-labelled s labels e place w some =
    let there = seen-labelled s.writes.now s.shown s.key.now s.at place w some in
    let long : length labels ≡ length s.writes.now = ap length e ∙ length-map s.writes.now write_label in
    let within : place < length labels = omega (arith, long, there.0) in
    (within, ap (λ (ls : List ℕ). get_or ls place 0) e ∙ there.1)

-- a lookup sees no range deletion from an end on, so it sees writes of its key alone
pub labels-from : (s : Sight) (end : ℕ) → ((place : ℕ) → end ≤ place → IfSome (seen_by s place) (λ w. deletes_range w ≡ false)) → (place : ℕ) → end ≤ place → IfSome (seen_by s place) (λ w. write_label w ≡ key_hash s.key.now)
labels-from s end none place le = both (seen_by s place) (none place le) (seen-named (take s.shown s.writes.now) s.key.now s.at place)
  where
    both : (o : Option Write) → IfSome o (λ w. deletes_range w ≡ false) → IfSome o (NamesKey s.key.now) → IfSome o (λ w. write_label w ≡ key_hash s.key.now)
    both None a b = tt
    both (Some w) a b = b a

-- the effect that a lookup sees below an end after all writes is that of the first ones
pub effect_on-sight : (m : Operation) (s : Sight) → effect_on m (take s.shown s.writes.now) s.key.now s.at ≡ effect_below m (seen_by s) (length s.writes.now)
effect_on-sight m s =
    let short : length (take s.shown s.writes.now) ≡ min s.shown (length s.writes.now) = length-take s.shown s.writes.now in
    effect_on-seen m (take s.shown s.writes.now) s.key.now s.at (length s.writes.now) (omega (arith, short))

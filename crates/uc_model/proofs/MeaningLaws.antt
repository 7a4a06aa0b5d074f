-- Laws of the meaning.
use Rattle.std.proofs.Common.{◌≡◌, ℕ, ◌<◌, Bool, true, false, cond, leb, List, [], ◌∷◌, ◌++◌, Option, None, fold, filter, refl, sym, ap, ◌∙◌, arith}
use Rattle.std.specs.Prelude.{◌&&◌}
use Rattle.std.specs.List.{AllByRecursion}
use Rattle.std.proofs.lemmas.Bool.Decides.{nat_tests}
use Rattle.std.proofs.lemmas.List.Elements.{filter-append}
use Rattle.uc_oper.specs.Operation.{Operation, IsLawful}
use Rattle.uc_oper.specs.Composition.{composed, applied, applied-composed, composed_assoc}
use Rattle.uc_oper.specs.declared.effect.Effect.{Effect}
use Rattle.uc_oper.specs.declared.effect.Effect.TheVariants.{Keep}
use Rattle.uc_bytes.specs.declared.op.Op.{Op}
use Rattle.uc_bytes.specs.declared.op.Op.TheVariants.{Put, Delete, Merge, DeleteRange}
use Rattle.uc_bytes.specs.declared.write.Write.{Write}
use Rattle.uc_model.specs.Meaning.{touches_key, is_seen, changed, touching, value_from, value_of, effect_of, effect_in_turn, effect_on}

-- to apply what one operation does is to change the value by it
applied-effect_of : (m : Operation) (op : Op) (value : Option (List ℕ)) → applied m (effect_of op) value ≡ changed m value op
applied-effect_of m (Put key new) value = refl
applied-effect_of m (Delete key) value = refl
applied-effect_of m (Merge key operand) value = refl
applied-effect_of m (DeleteRange begin end) value = refl

applied-fold : (m : Operation) → IsLawful m → (ws : List Write) (e : Effect) (value : Option (List ℕ)) → applied m (fold (λ effect w. composed m effect (effect_of w.op)) e ws) value ≡ fold (λ v w. changed m v w.op) (applied m e value) ws
applied-fold m laws [] e value = refl
applied-fold m laws (w ∷ ws) e value =
    applied-fold m laws ws (composed m e (effect_of w.op)) value
    ∙ ap (λ (v : Option (List ℕ)). fold (λ u x. changed m u x.op) v ws) (applied-composed m laws e (effect_of w.op) value ∙ applied-effect_of m w.op (applied m e value))

-- the effect of the writes, applied to a value, is what they make of it
pub effect_gives : (m : Operation) → IsLawful m → (value : Option (List ℕ)) (ws : List Write) (key : List ℕ) (at : ℕ) → applied m (effect_on m ws key at) value ≡ value_from m value ws key at
effect_gives m laws value ws key at = applied-fold m laws (touching ws key at) Keep value

-- what passes no test is left out
pub filter_none : {X : Type 0} (test : X → Bool) (xs : List X) → AllByRecursion (λ x. test x ≡ false) xs → filter test xs ≡ []
filter_none test [] none = refl
filter_none test (x ∷ xs) none = ap (λ b. cond b (x ∷ filter test xs) (filter test xs)) none.0 ∙ filter_none test xs none.1

filter-append_none : {X : Type 0} (test : X → Bool) (xs ys : List X) → AllByRecursion (λ y. test y ≡ false) ys → filter test (xs ++ ys) ≡ filter test xs
filter-append_none test [] [] none = refl
filter-append_none test [] (y ∷ ys) none = ap (λ b. cond b (y ∷ filter test ys) (filter test ys)) none.0 ∙ filter-append_none test [] ys none.1
filter-append_none test (x ∷ xs) ys none = ap (λ zs. cond (test x) (x ∷ zs) zs) (filter-append_none test xs ys none)

first_fails : (seq at : ℕ) (b : Bool) → at < seq → (leb seq at && b) ≡ false
first_fails seq at b lt = grind (arith, nat_tests)

pub and_false : (a b : Bool) → b ≡ false → (a && b) ≡ false
and_false true b e = e
and_false false b e = refl

later_fails : (at : ℕ) (key : List ℕ) (vs : List Write) → AllByRecursion (λ w. at < w.seq) vs → AllByRecursion (λ w. (leb w.seq at && touches_key key w.op) ≡ false) vs
later_fails at key [] later = tt
later_fails at key (v ∷ vs) later = (let lt : at < v.seq = later.0 in first_fails v.seq at (touches_key key v.op) lt, later_fails at key vs later.1)

-- writes that a read doesn't see do nothing to what it shows
unseen_keep : (m : Operation) (vs : List Write) (key : List ℕ) (at : ℕ) → AllByRecursion (λ w. is_seen key at w ≡ false) vs → effect_on m vs key at ≡ Keep
unseen_keep m vs key at none = ap (effect_in_turn m) (filter_none (is_seen key at) vs none)

unseen_change_nothing : (m : Operation) (ws vs : List Write) (key : List ℕ) (at : ℕ) → AllByRecursion (λ w. is_seen key at w ≡ false) vs → effect_on m (ws ++ vs) key at ≡ effect_on m ws key at
unseen_change_nothing m ws vs key at none = ap (effect_in_turn m) (filter-append_none (is_seen key at) ws vs none)

-- nor do writes above its sequence
pub later_keep : (m : Operation) (vs : List Write) (key : List ℕ) (at : ℕ) → AllByRecursion (λ w. at < w.seq) vs → effect_on m vs key at ≡ Keep
later_keep m vs key at later = unseen_keep m vs key at (later_fails at key vs later)

pub later_no_effect : (m : Operation) (ws vs : List Write) (key : List ℕ) (at : ℕ) → AllByRecursion (λ w. at < w.seq) vs → effect_on m (ws ++ vs) key at ≡ effect_on m ws key at
later_no_effect m ws vs key at later = unseen_change_nothing m ws vs key at (later_fails at key vs later)

pub later_change_nothing : (m : Operation) (ws vs : List Write) (key : List ℕ) (at : ℕ) → AllByRecursion (λ w. at < w.seq) vs → value_of m (ws ++ vs) key at ≡ value_of m ws key at
later_change_nothing m ws vs key at later = ap (fold (λ v w. changed m v w.op) None) (filter-append_none (is_seen key at) ws vs (later_fails at key vs later))

untouched_fails : (at : ℕ) (key : List ℕ) (vs : List Write) → AllByRecursion (λ w. touches_key key w.op ≡ false) vs → AllByRecursion (λ w. (leb w.seq at && touches_key key w.op) ≡ false) vs
untouched_fails at key [] none = tt
untouched_fails at key (v ∷ vs) none = (and_false (leb v.seq at) (touches_key key v.op) none.0, untouched_fails at key vs none.1)

-- nor do writes that don't touch the key
pub untouched_keep : (m : Operation) (vs : List Write) (key : List ℕ) (at : ℕ) → AllByRecursion (λ w. touches_key key w.op ≡ false) vs → effect_on m vs key at ≡ Keep
untouched_keep m vs key at none = unseen_keep m vs key at (untouched_fails at key vs none)

pub untouched_no_effect : (m : Operation) (ws vs : List Write) (key : List ℕ) (at : ℕ) → AllByRecursion (λ w. touches_key key w.op ≡ false) vs → effect_on m (ws ++ vs) key at ≡ effect_on m ws key at
untouched_no_effect m ws vs key at none = unseen_change_nothing m ws vs key at (untouched_fails at key vs none)

pub untouched_change_nothing : (m : Operation) (ws vs : List Write) (key : List ℕ) (at : ℕ) → AllByRecursion (λ w. touches_key key w.op ≡ false) vs → value_of m (ws ++ vs) key at ≡ value_of m ws key at
untouched_change_nothing m ws vs key at none = ap (fold (λ v w. changed m v w.op) None) (filter-append_none (is_seen key at) ws vs (untouched_fails at key vs none))

fold_on : {A X : Type 0} (f : A → X → A) (a : A) (xs ys : List X) → fold f a (xs ++ ys) ≡ fold f (fold f a xs) ys
fold_on f a [] ys = refl
fold_on f a (x ∷ xs) ys = fold_on f (f a x) xs ys

last_changes : (m : Operation) (value : Option (List ℕ)) (w : Write) (b : Bool) → fold (λ v x. changed m v x.op) value (cond b (w ∷ []) []) ≡ cond b (changed m value w.op) value
last_changes m value w true = refl
last_changes m value w false = refl

-- one more write changes the value of what it touches
pub more_changes : (m : Operation) (ws : List Write) (w : Write) (key : List ℕ) (at : ℕ) → value_of m (ws ++ w ∷ []) key at ≡ cond (leb w.seq at && touches_key key w.op) (changed m (value_of m ws key at) w.op) (value_of m ws key at)
more_changes m ws w key at =
    let seen = λ (x : Write). leb x.seq at && touches_key key x.op in
    let step = λ (v : Option (List ℕ)) (x : Write). changed m v x.op in
    ap (fold step None) (filter-append seen ws (w ∷ []))
    ∙ fold_on step None (filter seen ws) (filter seen (w ∷ []))
    ∙ last_changes m (value_of m ws key at) w (seen w)

composed_fold : (m : Operation) → IsLawful m → (ws : List Write) (a e : Effect) → fold (λ effect w. composed m effect (effect_of w.op)) (composed m a e) ws ≡ composed m a (fold (λ effect w. composed m effect (effect_of w.op)) e ws)
composed_fold m laws [] a e = refl
composed_fold m laws (w ∷ ws) a e =
    ap (λ (x : Effect). fold (λ effect v. composed m effect (effect_of v.op)) x ws) (composed_assoc m laws a e (effect_of w.op)) ∙ composed_fold m laws ws a (composed m e (effect_of w.op))

-- what two lists of writes do in turn
pub turns_compose : (m : Operation) → IsLawful m → (ws vs : List Write) → effect_in_turn m (ws ++ vs) ≡ composed m (effect_in_turn m ws) (effect_in_turn m vs)
turns_compose m laws ws vs =
    fold_on (λ (effect : Effect) (w : Write). composed m effect (effect_of w.op)) Keep ws vs ∙ composed_fold m laws vs (effect_in_turn m ws) Keep

-- the effect of two parts is that of the first, and then that of the second
pub parts_compose : (m : Operation) → IsLawful m → (ws vs : List Write) (key : List ℕ) (at : ℕ) → effect_on m (ws ++ vs) key at ≡ composed m (effect_on m ws key at) (effect_on m vs key at)
parts_compose m laws ws vs key at =
    ap (effect_in_turn m) (filter-append (is_seen key at) ws vs) ∙ turns_compose m laws (touching ws key at) (touching vs key at)

-- what a first part makes of a value, changed by the effect of the others, is what all make of it
pub effect_continues : (m : Operation) → IsLawful m → (value : Option (List ℕ)) (ws vs : List Write) (key : List ℕ) (at : ℕ) → value_from m value (ws ++ vs) key at ≡ applied m (effect_on m vs key at) (value_from m value ws key at)
effect_continues m laws value ws vs key at =
    let step = λ (v : Option (List ℕ)) (x : Write). changed m v x.op in
    ap (fold step value) (filter-append (is_seen key at) ws vs)
    ∙ fold_on step value (touching ws key at) (touching vs key at)
    ∙ sym (effect_gives m laws (value_from m value ws key at) vs key at)

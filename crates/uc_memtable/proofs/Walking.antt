-- Walks over the places of a label, compared with what a lookup sees.
use Rattle.std.proofs.Common.{◌≡◌, ◌≢◌, ℕ, suc, ◌+◌, ◌<◌, ◌≤◌, Bool, true, false, ltb, eqb, List, [], ◌∷◌, ◌++◌, length, get_or, max, Option, Some, None, refl, ap, sym, ◌∙◌, subst, arith, add-one}
use Rattle.std.specs.Prelude.{IfSome}
use Rattle.std.specs.Option.{option_map}
use Rattle.std.proofs.lemmas.Bool.Decides.{nat_tests}
use Rattle.uc_bytes.specs.declared.op.Op.{Op}
use Rattle.uc_bytes.specs.declared.op.Op.TheVariants.{Put, Delete, Merge, DeleteRange}
use Rattle.uc_bytes.specs.declared.write.Write.{Write}
use Rattle.uc_oper.specs.Operation.{Operation}
use Rattle.uc_oper.specs.Composition.{composed}
use Rattle.uc_oper.specs.declared.effect.Effect.{Effect}
use Rattle.uc_model.specs.Meaning.{effect_of}
use Rattle.uc_memtable.specs.declared.sight.Bearing.TheVariants.{Overwrites}
use Rattle.uc_memtable.specs.Ends.{newest_end}
use Rattle.uc_memtable.specs.Labels.{label_of, is_range, write_label, deletes_range}
use Rattle.uc_memtable.specs.Linked.{has_label}
use Rattle.uc_memtable.specs.Sights.{seen_passes, bearing_of, then_seen, effect_below, effect_over, effect_alone, effect_before}
use Rattle.uc_memtable.proofs.Ends.{newest_end-le, none_above}
use Rattle.uc_memtable.proofs.Seeing.{effect_below-quiet, effect_over-more}

-- what is seen stands among the labels
abbrev pub AreLabelled : (ℕ → Option Write) → List ℕ → Type 0
AreLabelled seen labels = (place : ℕ) (w : Write) → seen place ≡ Some w → (place < length labels) × (get_or labels place 0 ≡ write_label w)

abbrev pub NoRangesFrom : (ℕ → Option Write) → ℕ → Type 0
NoRangesFrom seen end = (place : ℕ) → end ≤ place → IfSome (seen place) (λ w. deletes_range w ≡ false)

by_option : (o : Option Write) (P : Write → Type 0) → ((w : Write) → o ≡ Some w → P w) → IfSome o P
by_option None P h = tt
by_option (Some w) P h = h w refl

some_is : (o : Option Write) (P : Write → Type 0) (w : Write) → o ≡ Some w → IfSome o P → P w
some_is None P w e h = absurd cc
some_is (Some v) P w e h = subst P (let same : v ≡ w = cc in same) h

label_of_range : (op : Op) (b : Bool) → is_range op ≡ b → label_of op ≢ 0 → b ≡ false
label_of_range (Put key value) b e other = sym e
label_of_range (Delete key) b e other = sym e
label_of_range (Merge key operand) b e other = sym e
label_of_range (DeleteRange begin end) b e other = absurd (other refl)

-- a place between the ends that a walk goes over has another label
another_label : (labels : List ℕ) (label top place : ℕ) → place < top → newest_end (has_label labels label) top ≤ place → get_or labels place 0 ≢ label
another_label labels label top place l above =
    let fails : eqb (get_or labels place 0) label ≡ false = none_above (has_label labels label) top place l above in
    λ same. let passes : eqb (get_or labels place 0) label ≡ true = grind (arith, nat_tests) in absurd cc

not_range : (seen : ℕ → Option Write) (labels : List ℕ) → AreLabelled seen labels → (top place : ℕ) (w : Write) → place < top → newest_end (has_label labels 0) top ≤ place → seen place ≡ Some w → deletes_range w ≡ false
not_range seen labels labelled top place w l above e =
    label_of_range w.op (is_range w.op) refl (λ zero. another_label labels 0 top place l above ((labelled place w e).1 ∙ zero))

pub no_ranges_first : (seen : ℕ → Option Write) (labels : List ℕ) → AreLabelled seen labels → NoRangesFrom seen (newest_end (has_label labels 0) (length labels))
no_ranges_first seen labels labelled place above =
    by_option (seen place) (λ w. deletes_range w ≡ false) (λ w e. not_range seen labels labelled (length labels) place w (labelled place w e).0 above e)

passed_here : (o : Option Write) (w : Write) → seen_passes deletes_range o ≡ false → o ≡ Some w → deletes_range w ≡ false
passed_here o w e some = subst (λ (p : Option Write). seen_passes deletes_range p ≡ false) some e

passed_at : (seen : ℕ → Option Write) (labels : List ℕ) → AreLabelled seen labels → (place other : ℕ) (w : Write) (below same : Bool) → ltb other place ≡ below → eqb other place ≡ same → seen_passes deletes_range (seen place) ≡ false → NoRangesFrom seen (place + 1) → newest_end (has_label labels 0) place ≤ other → seen other ≡ Some w → deletes_range w ≡ false
passed_at seen labels labelled place other w true same e f fails none above some =
    let lt : other < place = grind (arith, nat_tests) in
    not_range seen labels labelled place other w lt above some
passed_at seen labels labelled place other w false true e f fails none above some =
    let here : other ≡ place = grind (arith, nat_tests) in
    passed_here (seen place) w fails (ap seen (sym here) ∙ some)
passed_at seen labels labelled place other w false false e f fails none above some =
    let behind : place + 1 ≤ other = grind (arith, nat_tests) in
    some_is (seen other) (λ v. deletes_range v ≡ false) w some (none other behind)

-- one step of the walk over range deletions
pub no_ranges_next : (seen : ℕ → Option Write) (labels : List ℕ) → AreLabelled seen labels → (end place : ℕ) → end ≡ place + 1 → seen_passes deletes_range (seen place) ≡ false → NoRangesFrom seen end → NoRangesFrom seen (newest_end (has_label labels 0) place)
no_ranges_next seen labels labelled end place e fails none other above =
    let here : NoRangesFrom seen (place + 1) = subst (NoRangesFrom seen) e none in
    by_option (seen other) (λ w. deletes_range w ≡ false) (λ w some. passed_at seen labels labelled place other w (ltb other place) (eqb other place) refl refl fails here above some)

-- what is seen from a floor on has the label of the walk
abbrev pub HaveLabelFrom : (ℕ → Option Write) → ℕ → ℕ → Type 0
HaveLabelFrom seen floor label = (place : ℕ) → floor ≤ place → IfSome (seen place) (λ w. write_label w ≡ label)

nothing_seen : (seen : ℕ → Option Write) (labels : List ℕ) (floor label top place : ℕ) (o : Option Write) → seen place ≡ o → AreLabelled seen labels → HaveLabelFrom seen floor label → floor ≤ place → place < top → newest_end (has_label labels label) top ≤ place → o ≡ None
nothing_seen seen labels floor label top place None e labelled have le l above = refl
nothing_seen seen labels floor label top place (Some w) e labelled have le l above =
    absurd (another_label labels label top place l above ((labelled place w e).1 ∙ some_is (seen place) (λ v. write_label v ≡ label) w e (have place le)))

down_to : (m : Operation) (seen : ℕ → Option Write) (labels : List ℕ) (floor label top : ℕ) → AreLabelled seen labels → HaveLabelFrom seen floor label → floor ≤ top → effect_below m seen top ≡ effect_below m seen (max floor (newest_end (has_label labels label) top))
down_to m seen labels floor label top labelled have le =
    let within : newest_end (has_label labels label) top ≤ top = newest_end-le (has_label labels label) top in
    effect_below-quiet m seen (max floor (newest_end (has_label labels label) top)) top (omega arith)
    (λ place low l. nothing_seen seen labels floor label top place (seen place) refl labelled have (omega arith) l (omega arith))

-- the start of the walk over the key's writes
pub walk_begun : (m : Operation) (seen : ℕ → Option Write) (labels : List ℕ) (floor label : ℕ) → AreLabelled seen labels → HaveLabelFrom seen floor label → floor ≤ length labels → effect_below m seen (length labels) ≡ effect_below m seen (max floor (newest_end (has_label labels label) (length labels)))
walk_begun m seen labels floor label labelled have le = down_to m seen labels floor label (length labels) labelled have le

-- one step of it
pub walk_stepped : (m : Operation) (seen : ℕ → Option Write) (labels : List ℕ) (floor label end place : ℕ) → AreLabelled seen labels → HaveLabelFrom seen floor label → end ≡ place + 1 → floor < end → effect_below m seen (max floor end) ≡ then_seen m (effect_below m seen (max floor (newest_end (has_label labels label) place))) (seen place)
walk_stepped m seen labels floor label end place labelled have e l =
    let next : max floor end ≡ suc place = omega arith in
    ap (effect_below m seen) next ∙ ap (λ (x : Effect). then_seen m x (seen place)) (down_to m seen labels floor label place labelled have (omega arith))

pub noted_merge : (m : Operation) (seen : ℕ → Option Write) (labels : List ℕ) (floor label end place : ℕ) (all : Effect) (merges more : List ℕ) → AreLabelled seen labels → HaveLabelFrom seen floor label → end ≡ place + 1 → floor < end → more ≡ merges ++ place ∷ [] → all ≡ effect_over m seen (effect_below m seen (max floor end)) merges → all ≡ effect_over m seen (effect_below m seen (max floor (newest_end (has_label labels label) place))) more
noted_merge m seen labels floor label end place all merges more labelled have e l pushed known =
    known
    ∙ ap (λ (x : Effect). effect_over m seen x merges) (walk_stepped m seen labels floor label end place labelled have e l)
    ∙ sym (effect_over-more m seen (effect_below m seen (max floor (newest_end (has_label labels label) place))) merges place)
    ∙ ap (effect_over m seen (effect_below m seen (max floor (newest_end (has_label labels label) place)))) (sym pushed)

pub noted_none : (m : Operation) (seen : ℕ → Option Write) (labels : List ℕ) (floor label end place : ℕ) (all : Effect) (merges : List ℕ) → AreLabelled seen labels → HaveLabelFrom seen floor label → end ≡ place + 1 → floor < end → seen place ≡ None → all ≡ effect_over m seen (effect_below m seen (max floor end)) merges → all ≡ effect_over m seen (effect_below m seen (max floor (newest_end (has_label labels label) place))) merges
noted_none m seen labels floor label end place all merges labelled have e l none known =
    known
    ∙ ap (λ (x : Effect). effect_over m seen x merges) (walk_stepped m seen labels floor label end place labelled have e l ∙ ap (then_seen m (effect_below m seen (max floor (newest_end (has_label labels label) place)))) none)

overwrites : (m : Operation) (older : Effect) (op : Op) → bearing_of op ≡ Overwrites → composed m older (effect_of op) ≡ effect_of op
overwrites m older (Put key value) other = refl
overwrites m older (Delete key) other = refl
overwrites m older (Merge key operand) other = absurd cc
overwrites m older (DeleteRange begin end) other = refl

alone_at : (m : Operation) (older : Effect) (o : Option Write) → option_map (λ w. bearing_of w.op) o ≡ Some Overwrites → then_seen m older o ≡ effect_alone o
alone_at m older None e = absurd cc
alone_at m older (Some w) e = overwrites m older w.op (let bears : bearing_of w.op ≡ Overwrites = cc in bears)

-- a put or a deletion says alone what is seen below its end
pub stands_alone : (m : Operation) (seen : ℕ → Option Write) (end place : ℕ) → end ≡ place + 1 → option_map (λ w. bearing_of w.op) (seen place) ≡ Some Overwrites → effect_below m seen end ≡ effect_before seen end
stands_alone m seen end place e over =
    let next : end ≡ suc place = e ∙ add-one place in
    ap (effect_below m seen) next
    ∙ alone_at m (effect_below m seen place) (seen place) over
    ∙ ap (effect_before seen) (sym next)

-- where no write has a bearing, none is seen
pub none_bears : (o : Option Write) → option_map (λ w. bearing_of w.op) o ≡ None → o ≡ None
none_bears None e = refl
none_bears (Some w) e = absurd cc

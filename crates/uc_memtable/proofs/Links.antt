-- Places are linked to chains, and taken out of them, one after the other.
use Rattle.std.proofs.Common.{◌≡◌, ◌≢◌, ℕ, suc, ◌+◌, ◌<◌, ◌≤◌, Bool, true, false, eqb, List, [], ◌∷◌, ◌++◌, length, get_or, set, take, refl, ap, sym, ◌∙◌, subst, arith, add-one}
use Rattle.std.proofs.lemmas.Bool.Decides.{nat_tests}
use Rattle.std.proofs.lemmas.List.{length-set, get_or-set_same, get_or-set_other, get_or-take, get_or_append_left, length-take-le}
use Rattle.uc_memtable.specs.Ends.{newest_end}
use Rattle.uc_memtable.specs.Linked.{bucket_of, has_label, lies_in, HaveHeads, AreChained}
use Rattle.uc_memtable.proofs.Ends.{newest_end-yes, newest_end-no, newest_end-le, newest_end-same, newest_end-within, newest_end-again, end_passes}

-- one more place, in its own bucket and in any other
pub more_here : (buckets : ℕ) (labels : List ℕ) (place bucket : ℕ) → bucket ≡ bucket_of buckets (get_or labels place 0) → newest_end (lies_in buckets labels bucket) (place + 1) ≡ place + 1
more_here buckets labels place bucket e =
    let passes : lies_in buckets labels bucket place ≡ true = grind (arith, nat_tests) in
    subst (λ (n : ℕ). newest_end (lies_in buckets labels bucket) n ≡ n) (sym (add-one place)) (newest_end-yes (lies_in buckets labels bucket) place passes)

pub more_elsewhere : (buckets : ℕ) (labels : List ℕ) (place bucket : ℕ) → bucket ≢ bucket_of buckets (get_or labels place 0) → newest_end (lies_in buckets labels bucket) (place + 1) ≡ newest_end (lies_in buckets labels bucket) place
more_elsewhere buckets labels place bucket other =
    let fails : lies_in buckets labels bucket place ≡ false = grind (arith, nat_tests) in
    subst (λ (n : ℕ). newest_end (lies_in buckets labels bucket) n ≡ newest_end (lies_in buckets labels bucket) place) (sym (add-one place)) (newest_end-no (lies_in buckets labels bucket) place fails)

-- a head is set, and those of the other buckets stay
head_at : (heads labels : List ℕ) (n m bucket value other : ℕ) (same : Bool) → eqb other bucket ≡ same → bucket < length heads → value ≡ newest_end (lies_in (length heads) labels bucket) m → (other ≢ bucket → newest_end (lies_in (length heads) labels other) n ≡ newest_end (lies_in (length heads) labels other) m) → get_or heads other 0 ≡ newest_end (lies_in (length heads) labels other) n → get_or (set heads bucket value) other 0 ≡ newest_end (lies_in (length heads) labels other) m
head_at heads labels n m bucket value other true e l new kept old =
    let here : other ≡ bucket = grind (arith, nat_tests) in
    subst (λ (b : ℕ). get_or (set heads bucket value) b 0 ≡ newest_end (lies_in (length heads) labels b) m) (sym here) (get_or-set_same heads bucket value 0 l ∙ new)
head_at heads labels n m bucket value other false e l new kept old =
    let away : other ≢ bucket = grind (arith, nat_tests) in
    get_or-set_other heads bucket other value 0 away ∙ old ∙ kept away

pub heads_set : (heads labels : List ℕ) (n m bucket value : ℕ) → bucket < length heads → value ≡ newest_end (lies_in (length heads) labels bucket) m → ((other : ℕ) → other ≢ bucket → newest_end (lies_in (length heads) labels other) n ≡ newest_end (lies_in (length heads) labels other) m) → HaveHeads heads labels n → HaveHeads (set heads bucket value) labels m
heads_set heads labels n m bucket value within new kept old other l =
    let long : length (set heads bucket value) ≡ length heads = length-set heads bucket value in
    let inside : other < length heads = omega (arith, l, long) in
    subst (λ (size : ℕ). get_or (set heads bucket value) other 0 ≡ newest_end (lies_in size labels other) m) (sym long)
    (head_at heads labels n m bucket value other (eqb other bucket) refl within new (kept other) (old other inside))

-- a place becomes the newest of its bucket
pub heads_linked : (heads labels : List ℕ) (place bucket : ℕ) → bucket ≡ bucket_of (length heads) (get_or labels place 0) → bucket < length heads → HaveHeads heads labels place → HaveHeads (set heads bucket (place + 1)) labels (place + 1)
heads_linked heads labels place bucket e within old =
    heads_set heads labels place (place + 1) bucket (place + 1) within (sym (more_here (length heads) labels place bucket e))
    (λ other away. sym (more_elsewhere (length heads) labels place other (λ same. away (same ∙ sym e)))) old

chained_at : (buckets : ℕ) (labels before : List ℕ) (place value other : ℕ) (same : Bool) → eqb other place ≡ same → place < length before → value ≡ newest_end (lies_in buckets labels (bucket_of buckets (get_or labels place 0))) place → other < place + 1 → AreChained buckets labels before place → get_or (set before place value) other 0 ≡ newest_end (lies_in buckets labels (bucket_of buckets (get_or labels other 0))) other
chained_at buckets labels before place value other true e l new lt old =
    let here : other ≡ place = grind (arith, nat_tests) in
    subst (λ (p : ℕ). get_or (set before place value) p 0 ≡ newest_end (lies_in buckets labels (bucket_of buckets (get_or labels p 0))) p) (sym here) (get_or-set_same before place value 0 l ∙ new)
chained_at buckets labels before place value other false e l new lt old =
    let away : other ≢ place = grind (arith, nat_tests) in
    let below : other < place = omega arith in
    get_or-set_other before place other value 0 away ∙ old other below

pub chain_linked : (heads labels before : List ℕ) (place bucket : ℕ) → bucket ≡ bucket_of (length heads) (get_or labels place 0) → bucket < length heads → place < length before → HaveHeads heads labels place → AreChained (length heads) labels before place → AreChained (length heads) labels (set before place (get_or heads bucket 0)) (place + 1)
chain_linked heads labels before place bucket e within l heads_are old other lt =
    let new : get_or heads bucket 0 ≡ newest_end (lies_in (length heads) labels (bucket_of (length heads) (get_or labels place 0))) place =
    subst (λ (b : ℕ). get_or heads bucket 0 ≡ newest_end (lies_in (length heads) labels b) place) e (heads_are bucket within) in
    chained_at (length heads) labels before place (get_or heads bucket 0) other (eqb other place) refl l new lt old

-- the newest place is taken out of its chain
pub heads_unlinked : (heads labels before : List ℕ) (n place bucket : ℕ) → bucket ≡ bucket_of (length heads) (get_or labels place 0) → bucket < length heads → place < n → HaveHeads heads labels (place + 1) → AreChained (length heads) labels before n → HaveHeads (set heads bucket (get_or before place 0)) labels place
heads_unlinked heads labels before n place bucket e within l heads_are chained =
    let new : get_or before place 0 ≡ newest_end (lies_in (length heads) labels bucket) place =
    subst (λ (b : ℕ). get_or before place 0 ≡ newest_end (lies_in (length heads) labels b) place) (sym e) (chained place l) in
    heads_set heads labels (place + 1) place bucket (get_or before place 0) within new
    (λ other away. more_elsewhere (length heads) labels place other (λ same. away (same ∙ sym e))) heads_are

-- the same over labels that agree below `n`
pub heads_alike : (heads labels more : List ℕ) (n : ℕ) → ((k : ℕ) → k < n → get_or labels k 0 ≡ get_or more k 0) → HaveHeads heads labels n → HaveHeads heads more n
heads_alike heads labels more n alike old bucket l =
    old bucket l ∙ newest_end-same (lies_in (length heads) labels bucket) (lies_in (length heads) more bucket) n (λ k lt. ap (λ (label : ℕ). eqb (bucket_of (length heads) label) bucket) (alike k lt))

pub chained_alike : (buckets : ℕ) (labels more before after : List ℕ) (n : ℕ) → ((k : ℕ) → k < n → get_or labels k 0 ≡ get_or more k 0) → ((k : ℕ) → k < n → get_or before k 0 ≡ get_or after k 0) → AreChained buckets labels before n → AreChained buckets more after n
chained_alike buckets labels more before after n alike kept old place l =
    let bucket : ℕ → ℕ = λ (label : ℕ). bucket_of buckets label in
    let agree : (k : ℕ) → k < place → lies_in buckets labels (bucket (get_or labels place 0)) k ≡ lies_in buckets more (bucket (get_or labels place 0)) k =
    λ k lt. ap (λ (label : ℕ). eqb (bucket_of buckets label) (bucket (get_or labels place 0))) (alike k (omega arith)) in
    sym (kept place l) ∙ old place l
    ∙ newest_end-same (lies_in buckets labels (bucket (get_or labels place 0))) (lies_in buckets more (bucket (get_or labels place 0))) place agree
    ∙ ap (λ (label : ℕ). newest_end (lies_in buckets more (bucket label)) place) (alike place l)

-- links go down
pub links_fall : (buckets : ℕ) (labels before : List ℕ) (n : ℕ) → AreChained buckets labels before n → (place : ℕ) → place < n → get_or before place 0 ≤ place
links_fall buckets labels before n chained place l =
    let down = newest_end-le (lies_in buckets labels (bucket_of buckets (get_or labels place 0))) place in
    omega (arith, down, chained place l)

-- labels that are equal share a bucket
pub label_in_bucket : (buckets : ℕ) (labels : List ℕ) (label k : ℕ) → has_label labels label k ≡ true → lies_in buckets labels (bucket_of buckets label) k ≡ true
label_in_bucket buckets labels label k e =
    let same : get_or labels k 0 ≡ label = grind (arith, nat_tests) in
    let bucket : bucket_of buckets (get_or labels k 0) ≡ bucket_of buckets label = ap (bucket_of buckets) same in
    grind (arith, nat_tests)

-- a walk in a bucket finds the newest place of a label
pub found_in_bucket : (buckets : ℕ) (labels : List ℕ) (label top : ℕ) → newest_end (has_label labels label) (newest_end (lies_in buckets labels (bucket_of buckets label)) top) ≡ newest_end (has_label labels label) top
found_in_bucket buckets labels label top = sym (newest_end-within (lies_in buckets labels (bucket_of buckets label)) (has_label labels label) top (label_in_bucket buckets labels label))

-- one step of such a walk, at a place of another label
pub walked_on : (buckets : ℕ) (labels before : List ℕ) (label n end place from : ℕ) → end ≡ place + 1 → place < n → AreChained buckets labels before n → get_or labels place 0 ≢ label → newest_end (lies_in buckets labels (bucket_of buckets label)) end ≡ end → newest_end (has_label labels label) from ≡ newest_end (has_label labels label) end → (newest_end (lies_in buckets labels (bucket_of buckets label)) (get_or before place 0) ≡ get_or before place 0) × (newest_end (has_label labels label) from ≡ newest_end (has_label labels label) (get_or before place 0))
walked_on buckets labels before label n end place from e l chained other ends known =
    let f : ℕ → Bool = lies_in buckets labels (bucket_of buckets label) in
    let g : ℕ → Bool = has_label labels label in
    let next : end ≡ suc place = e ∙ add-one place in
    let passes : f place ≡ true = end_passes f place (subst (λ (k : ℕ). newest_end f k ≡ k) next ends) in
    let bucket : bucket_of buckets (get_or labels place 0) ≡ bucket_of buckets label = grind (arith, nat_tests) in
    let link : get_or before place 0 ≡ newest_end f place =
    chained place l ∙ ap (λ (b : ℕ). newest_end (lies_in buckets labels b) place) bucket in
    let fails : g place ≡ false = grind (arith, nat_tests) in (
      ap (newest_end f) link ∙ newest_end-again f place ∙ sym link,
      known ∙ ap (newest_end g) next ∙ newest_end-no g place fails ∙ sym (found_in_bucket buckets labels label place) ∙ ap (newest_end g) (sym link),
    )

-- where such a walk ends
pub walk_ended : (labels : List ℕ) (label end place : ℕ) → end ≡ place + 1 → get_or labels place 0 ≡ label → newest_end (has_label labels label) end ≡ end
walk_ended labels label end place e same =
    let next : end ≡ suc place = e ∙ add-one place in
    let passes : has_label labels label place ≡ true = grind (arith, nat_tests) in
    subst (λ (k : ℕ). newest_end (has_label labels label) k ≡ k) (sym next) (newest_end-yes (has_label labels label) place passes)

-- a walk that begins at the end of a bucket's places below `top`
pub walk_from : (buckets : ℕ) (labels before : List ℕ) (label head top result : ℕ) → AreChained buckets labels before (length labels) → head ≡ newest_end (lies_in buckets labels (bucket_of buckets label)) top → (AreChained buckets labels before (length labels) → newest_end (lies_in buckets labels (bucket_of buckets label)) head ≡ head → result ≡ newest_end (has_label labels label) head) → result ≡ newest_end (has_label labels label) top
walk_from buckets labels before label head top result chained is found =
    let f : ℕ → Bool = lies_in buckets labels (bucket_of buckets label) in
    found chained (ap (newest_end f) is ∙ newest_end-again f top ∙ sym is)
    ∙ ap (newest_end (has_label labels label)) is
    ∙ found_in_bucket buckets labels label top

pub head_within : (buckets : ℕ) (labels : List ℕ) (bucket head top : ℕ) → head ≡ newest_end (lies_in buckets labels bucket) top → head ≤ top
head_within buckets labels bucket head top is =
    let le : newest_end (lies_in buckets labels bucket) top ≤ top = newest_end-le (lies_in buckets labels bucket) top in
    omega (arith, le, is)

-- what the chains hold, over plain lists
pub record LinkLists (heads labels before : List ℕ) : Type 0 where
  pub aligned : length before ≡ length labels
  pub roomy : length labels ≤ length heads
  pub heads_are : HaveHeads heads labels (length labels)
  pub before_are : AreChained (length heads) labels before (length labels)

pub linked_first : (heads labels before new : List ℕ) (count : ℕ) → length new ≡ length heads → count ≤ length labels → length before ≡ length labels → length labels ≤ length heads → HaveHeads new labels count → AreChained (length heads) labels before (length labels) → LinkLists new (take count labels) (take count before)
linked_first heads labels before new count same le aligned roomy heads_are chained =
    let long : length (take count labels) ≡ count = length-take-le count labels le in
    let as_long : length (take count before) ≡ count = length-take-le count before (omega arith) in
    let kept : (k : ℕ) → k < count → get_or labels k 0 ≡ get_or (take count labels) k 0 = λ k l. sym (get_or-take count labels k 0 l) in
    let stay : (k : ℕ) → k < count → get_or before k 0 ≡ get_or (take count before) k 0 = λ k l. sym (get_or-take count before k 0 l) in
    let first : AreChained (length heads) labels before count = λ place l. chained place (omega arith) in
    record {
      aligned = as_long ∙ sym long;
      roomy = omega arith;
      heads_are = subst (λ (n : ℕ). HaveHeads new (take count labels) n) (sym long) (heads_alike new labels (take count labels) count kept heads_are);
      before_are = subst (λ (b : ℕ). AreChained b (take count labels) (take count before) (length (take count labels))) (sym same)
          (subst (λ (n : ℕ). AreChained (length heads) (take count labels) (take count before) n) (sym long) (chained_alike (length heads) labels (take count labels) before (take count before) count kept stay first));
    }

-- one more label stands there, which isn't linked yet
pub heads_before : (heads labels : List ℕ) (label : ℕ) → HaveHeads heads labels (length labels) → HaveHeads heads (labels ++ label ∷ []) (length labels)
heads_before heads labels label old = heads_alike heads labels (labels ++ label ∷ []) (length labels) (λ k l. sym (get_or_append_left labels (label ∷ []) 0 k l)) old

pub chained_before : (buckets : ℕ) (labels before : List ℕ) (label link : ℕ) → length before ≡ length labels → AreChained buckets labels before (length labels) → AreChained buckets (labels ++ label ∷ []) (before ++ link ∷ []) (length labels)
chained_before buckets labels before label link aligned old =
    chained_alike buckets labels (labels ++ label ∷ []) before (before ++ link ∷ []) (length labels)
    (λ k l. sym (get_or_append_left labels (label ∷ []) 0 k l)) (λ k l. sym (get_or_append_left before (link ∷ []) 0 k (omega arith))) old

-- the place before an end has the label
pub label_before : (labels : List ℕ) (label end place : ℕ) → end ≡ place + 1 → newest_end (has_label labels label) end ≡ end → get_or labels place 0 ≡ label
label_before labels label end place e ends =
    let passes : has_label labels label place ≡ true = end_passes (has_label labels label) place (subst (λ (k : ℕ). newest_end (has_label labels label) k ≡ k) (e ∙ add-one place) ends) in
    grind (arith, nat_tests)

pub linked_all : (heads labels before : List ℕ) (size n : ℕ) → length before ≡ length labels → length labels ≤ length heads → n ≡ length labels → size ≡ length heads → HaveHeads heads labels n → AreChained size labels before n → LinkLists heads labels before
linked_all heads labels before size n aligned roomy e same heads_are chained = record {
  aligned = aligned;
  roomy = roomy;
  heads_are = subst (λ (k : ℕ). HaveHeads heads labels k) e heads_are;
  before_are = subst (λ (b : ℕ). AreChained b labels before (length labels)) same (subst (λ (k : ℕ). AreChained size labels before k) e chained);
}
